use Rattle.event_loop.proofs.connections.end_drives.Goals as goal
use Rattle.std.proofs.Common.{arith}
use Rattle.event_loop.proofs.Polled.{all_ended}
use Rattle.event_loop.specs.Leavings.EndEach.{NoneEnded, OneMore}

pub loop-key-init : goal.loop-key-init
loop-key-init g c = NoneEnded

pub loop-key-preserved : goal.loop-key-preserved
loop-key-preserved g c = OneMore _ _ _ _ _ c.loop-key.invariant c.end_drive_at.ensures

pub returns-clause-left : goal.returns-clause-left
returns-clause-left g c =
    record { keys = c.loop-key.key; all = omega (arith, c.capacity-key-end.ensures.holds_all, c.capacity-key-end.ensures.slots); each = c.loop-key.invariant }

pub returns-clause-ended : goal.returns-clause-ended
returns-clause-ended g c = all_ended _ _ (returns-clause-left g c)
