use Rattle.event_loop.proofs.order.classes_of.Given as goal
use Rattle.event_loop.proofs.Classes.{ClassesBelow}

abbrev pub invariant-loop-key : goal.invariant-loop-key
invariant-loop-key g l = ClassesBelow l.hub l.table.slots l.key l.classes.items
