use Rattle.event_loop.proofs.order.take_turns.Given as goal
use Rattle.event_loop.proofs.Ordering.{TurnedBelow}

abbrev pub invariant-loop-key : goal.invariant-loop-key
invariant-loop-key g l = TurnedBelow l.hub l.turns l.key l.left.light l.left.late l.initial.table.slots l.table.slots
