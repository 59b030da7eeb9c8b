use Rattle.sorted_pages.proofs.held.bound_of.Given as goal
use Rattle.std.specs.Prelude.{take}
use Rattle.sorted_pages.specs.Held.{AreBounded}

abbrev pub invariant-loop-number : goal.invariant-loop-number
invariant-loop-number l = AreBounded l.bound (take l.number-index l.numbers)
