use Rattle.event_loop.proofs.connections.make_polled_ready.Goals as goal
use Rattle.std.proofs.Common.{ap, sym}
use Rattle.event_loop.proofs.Polled.{polled_more_none, polled_more_some}

pub loop-event-preserved-in-Some-get_mut : goal.loop-event-preserved-in-Some-get_mut
loop-event-preserved-in-Some-get_mut c =
    polled_more_some (λ e. e.now) c.loop-event.yielded c.in-Some.event c.args.table.now.slots c.loop-event.table.slots c.token-key.result.0
    (ap (λ t. t.0) c.token-key.ensures) c.loop-event.invariant
    c.reports_to_read_on.result c.reports_to_read_on.ensures c.in-Some-get_mut.entry.now
    c.make_ready.new.entry (sym c.in-Some-get_mut.ensures.value) c.make_ready.ensures

pub loop-event-preserved : goal.loop-event-preserved
loop-event-preserved c =
    polled_more_none (λ e. e.now) c.loop-event.yielded c.in-Some.event c.args.table.now.slots c.loop-event.table.slots c.token-key.result.0
    (ap (λ t. t.0) c.token-key.ensures) c.loop-event.invariant
    (sym c.in_default.ensures.value)
