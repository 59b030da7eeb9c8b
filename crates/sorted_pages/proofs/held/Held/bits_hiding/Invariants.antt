use Rattle.sorted_pages.proofs.held.Held.bits_hiding.Given as goal
use Rattle.std.specs.Prelude.{nat_lt, ◌&&◌}
use Rattle.sorted_pages.proofs.Slots.{AreBitsTo}
use Rattle.sorted_pages.specs.Summaries.{are_hidden}

abbrev pub invariant-loop-slot : goal.invariant-loop-slot
invariant-loop-slot g l = AreBitsTo (λ n. nat_lt n l.high && are_hidden (g.V.Versioned.hides n) l.entries) l.self-inside.slots l.slot l.bits
