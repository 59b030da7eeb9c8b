use Rattle.sorted_pages.proofs.number_set.NumberSet.of.Given as goal
use Rattle.std.proofs.Common.{◌≡◌, length}
use Rattle.sorted_pages.specs.Held.{AreAmong}

-- what stands in the places is among the numbers
abbrev pub invariant-loop-number : goal.invariant-loop-number
invariant-loop-number l = AreAmong l.numbers l.places × (length l.places ≡ 128)
