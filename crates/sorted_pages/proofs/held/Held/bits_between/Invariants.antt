use Rattle.sorted_pages.proofs.held.Held.bits_between.Given as goal
use Rattle.std.specs.Prelude.{nat_le, nat_lt, ◌&&◌}
use Rattle.sorted_pages.proofs.Slots.{AreBitsTo}

abbrev pub invariant-loop-slot : goal.invariant-loop-slot
invariant-loop-slot l = AreBitsTo (λ n. nat_le l.low n && nat_lt n l.high) l.self-inside.slots l.slot l.bits
