use Rattle.sorted_pages.proofs.held.Held.release_others.Given as goal
use Rattle.sorted_pages.proofs.Slots.{ReleasedTo}

abbrev pub invariant-loop-slot : goal.invariant-loop-slot
invariant-loop-slot l = ReleasedTo l.numbers l.initial.self-inside.slots l.slot l.used l.self-inside.slots
