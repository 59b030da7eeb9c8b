use Rattle.last_readers.proofs.steps.renumber.Given as goal
use Rattle.std.proofs.Common.{◌≡◌, ◌++◌, take, drop, map}
use Rattle.last_readers.specs.Steps.{renumbered}

-- those up to the place have the number
abbrev pub invariant-loop-i : goal.invariant-loop-i
invariant-loop-i l = l.steps.items ≡ map (renumbered l.number) (take l.i l.fn.steps.items) ++ drop l.i l.fn.steps.items
