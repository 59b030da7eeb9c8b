use Rattle.sorted_pages.proofs.held.Held.hold.Given as goal
use Rattle.sorted_pages.proofs.Slots.{HoldsSo}

abbrev pub invariant-loop-number : goal.invariant-loop-number
invariant-loop-number l = HoldsSo l.last l.numbers l.number-index l.fn.self l.self
