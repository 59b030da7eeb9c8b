use Rattle.event_loop.proofs.connections.end_drives.Given as goal
use Rattle.event_loop.specs.Leavings.{EndEach}
use Rattle.event_loop.specs.Lingerings.{lingers_in}

abbrev pub invariant-loop-key : goal.invariant-loop-key
invariant-loop-key g l =
    EndEach (g.D.Sectors.moment l.device) l.initial.table.slots (lingers_in l.initial.lingering) l.key l.table.slots (lingers_in l.lingering)
