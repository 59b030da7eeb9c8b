use Rattle.event_loop.proofs.order.next_in_turn.Given as goal
use Rattle.std.specs.Prelude.{slice_index_or}
use Rattle.event_loop.proofs.Ordering.{IsNearest}
use Rattle.event_loop.specs.Order.{is_class_of}
use Rattle.event_loop.specs.declared.order.Class.TheVariants.{Light}

abbrev pub invariant-loop-key : goal.invariant-loop-key
invariant-loop-key l = IsNearest (λ key. is_class_of l.kind (slice_index_or l.classes.items key Light)) l.last l.next l.key
