use Rattle.event_loop.proofs.order.next_turns.Goals as goal
use Rattle.std.proofs.Common.{rules}
use Rattle.std.specs.Prelude.{slice_index_or}
use Rattle.event_loop.proofs.Classes.{classes_wait}
use Rattle.event_loop.proofs.Ordering.{next_as}
use Rattle.event_loop.specs.Order.{is_class_of}
use Rattle.event_loop.specs.Tables.{slot_at}
use Rattle.event_loop.specs.declared.order.Class.TheVariants.{Light}
use Rattle.event_loop.specs.declared.order.Kind.TheVariants.{Any}

pub returns-clause-next : goal.returns-clause-next
returns-clause-next g c =
    let hub = c.args.hub.now in
    let slots = slot_at c.args.table.now.slots in
    let classes = c.args.classes.now.items in
    let kind = c.if-writes_at.kind in
    let last = c.args.last in
    record {
      next = next_as (λ key. is_class_of Any (slice_index_or classes key Light)) _ (classes_wait hub slots classes c.requires.classes Any) last.next
          c.next_in_turn-next.result c.next_in_turn-next.ensures.next;
      kind = search rules;
      beside = next_as (λ key. is_class_of kind (slice_index_or classes key Light)) _ (classes_wait hub slots classes c.requires.classes kind) last.beside
          c.next_in_turn.result c.next_in_turn.ensures.next;
    }
