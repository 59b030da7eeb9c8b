use Rattle.event_loop.proofs.connections.make_polled_ready.Given as goal
use Rattle.std.proofs.Common.{◌≡◌, ℕ, map}
use Rattle.event_loop.specs.Tables.{after_poll, slot_at}

abbrev pub invariant-loop-event : goal.invariant-loop-event
invariant-loop-event l = (key : ℕ) → slot_at l.table.slots key ≡ after_poll (map (λ e. e.now) l.yielded) key (slot_at l.initial.table.slots key)
