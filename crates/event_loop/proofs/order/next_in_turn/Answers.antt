use Rattle.event_loop.proofs.order.next_in_turn.Goals as goal
use Rattle.std.proofs.Common.{◌∙◌, ap, arith}
use Rattle.std.proofs.Math.ListN.{get_or-eq_default}
use Rattle.std.specs.Prelude.{slice_index_or}
use Rattle.event_loop.proofs.Classes.{of_no_kind}
use Rattle.event_loop.proofs.Ordering.{nearest_of_all}
use Rattle.event_loop.specs.Order.{is_class_of}
use Rattle.event_loop.specs.declared.order.Class.TheVariants.{Light}

pub returns-clause-next : goal.returns-clause-next
returns-clause-next c =
    let classes = c.args.classes.now.items in
    let kind = c.args.kind in
    nearest_of_all (λ key. is_class_of kind (slice_index_or classes key Light)) c.args.last c.loop-key.next c.loop-key.key c.loop-key.invariant c.requires
    (λ key beyond place. ap (is_class_of kind) (get_or-eq_default classes Light (omega (arith, c.loop-key-test.false, c.len-key-end.ensures, beyond)))
    ∙ of_no_kind kind)
