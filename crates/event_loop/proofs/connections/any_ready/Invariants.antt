use Rattle.event_loop.proofs.connections.any_ready.Given as goal
use Rattle.std.proofs.Common.{◌≡◌}
use Rattle.std.specs.List.{list_any}
use Rattle.event_loop.specs.Tables.{is_any_ready, is_ready}

abbrev pub invariant-loop-key : goal.invariant-loop-key
invariant-loop-key l =
    (goal.iterator-loop-key).can_next l._key-iterator × (goal.iterator-loop-key).is_finite l._key-iterator
    × (list_any (λ e. is_ready e.1.state) l._key-iterator ≡ is_any_ready l.table)
