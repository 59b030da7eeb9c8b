use Rattle.event_loop.proofs.order.take_turns.Goals as goal
use Rattle.std.proofs.Common.{◌≡◌, ◌+◌, ◌-◌, ◌∙◌, Some, ap, arith, min, subst, sym}
use Rattle.event_loop.proofs.Ordering.{TurnedBelow, turned_none, turned_some}
use Rattle.event_loop.proofs.order.take_turns.Goals.{in-Some, in_default}
use Rattle.slab.specs.Slab.{Slab}
use Rattle.stream_driver.specs.declared.buffered.BufferedStream.{BufferedStream}
use Rattle.stream_driver.specs.declared.entries.Entry.{Entry}
use Rattle.event_loop.proofs.Widths.{unused_over}
use Rattle.event_loop.specs.Order.{is_one, late_in, light_below, light_in}
use Rattle.event_loop.specs.Tables.{slot_at}
use Rattle.event_loop.specs.declared.socket.Socket.{Socket}

pub loop-key-preserved : goal.loop-key-preserved
loop-key-preserved g c =
    let hub = c.args.hub.now in
    let old = c.args.table.now.slots in
    let mid = c.loop-key.table.slots in
    let key = c.loop-key.key in
    let left = c.loop-key.left in
    elim c.match-get_mut.branch [
      | in-Some w ↦
          let less : c.match-get_mut.left.light ≡ left.light - is_one (light_in hub (Some w.in-Some.entry.now)) =
          ap (λ l. l.light) w.left-is ∙ w.take_turn-left.ensures.light in
          let fewer : c.match-get_mut.left.late ≡ left.late - is_one (late_in hub (Some w.in-Some.entry.now)) =
          ap (λ l. l.late) w.left-is ∙ w.take_turn-left.ensures.late in
          subst (λ (t : Slab (Entry (BufferedStream Socket))). TurnedBelow hub c.args.turns (key + 1) c.match-get_mut.left.light
          c.match-get_mut.left.late old t.slots) (sym w.table-is)
          (turned_some hub c.args.turns key left.light left.late old mid c.loop-key.invariant c.match-get_mut.left.light c.match-get_mut.left.late
          w.in-Some.entry.now w.take_turn-left.new.entry (sym w.in-Some.ensures.value) w.take_turn-left.ensures.taken less fewer)
      | in_default w ↦
          subst (λ (t : Slab (Entry (BufferedStream Socket))). TurnedBelow hub c.args.turns (key + 1) c.match-get_mut.left.light
          c.match-get_mut.left.late old t.slots) (sym w.table-is)
          (subst (λ l. TurnedBelow hub c.args.turns (key + 1) l.light l.late old mid) (sym w.left-is)
          (turned_none hub c.args.turns key left.light left.late old mid c.loop-key.invariant (sym w.in_default.ensures.value)))
    ]

pub returns-clause-unused : goal.returns-clause-unused
returns-clause-unused g c =
    let hub = c.args.hub.now in
    let slots = c.args.table.now.slots in
    let turns = c.args.turns in
    let end = c.loop-key.key in
    c.min.ensures ∙ ap (λ n. min n c.loop-key.left.late) c.loop-key.invariant.light_is
    ∙ ap (λ n. min (turns.width - light_below hub (slot_at slots) end) n) c.loop-key.invariant.late_is
    ∙ unused_over hub turns slots end (omega (arith, c.capacity-key-end.ensures.slots, c.loop-key-test.false))
