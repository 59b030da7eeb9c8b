use Rattle.versions.proofs.several.Several.hides_from.Given as goal
use Rattle.versions.proofs.Deletions.{HidesDownTo}

-- those that were passed by are deletions, and `from` is the number of the last of them
abbrev pub invariant-loop-version : goal.invariant-loop-version
invariant-loop-version l = HidesDownTo l.from l.version-iterator.iter.rest.now l.self
