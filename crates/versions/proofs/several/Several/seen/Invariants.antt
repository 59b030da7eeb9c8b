use Rattle.versions.proofs.several.Several.seen.Given as goal
use Rattle.std.proofs.Common.{◌≡◌, None}
use Rattle.versions.specs.Chains.{last_at, version_at}

-- the versions that were passed by are too new
abbrev pub invariant-loop-version : goal.invariant-loop-version
invariant-loop-version l = last_at l.n None l.version-iterator.iter.rest.now ≡ version_at l.n l.self
