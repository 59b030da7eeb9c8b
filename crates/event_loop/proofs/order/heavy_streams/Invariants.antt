use Rattle.event_loop.proofs.order.heavy_streams.Given as goal
use Rattle.std.proofs.Common.{◌≡◌, ◌≤◌}
use Rattle.event_loop.specs.Order.{count_below, takes_turns}
use Rattle.event_loop.specs.Tables.{slot_at}

abbrev pub invariant-loop-key : goal.invariant-loop-key
invariant-loop-key l = (l.count ≡ count_below (λ key. takes_turns (slot_at l.table.slots key)) l.key) × (l.count ≤ l.key)
