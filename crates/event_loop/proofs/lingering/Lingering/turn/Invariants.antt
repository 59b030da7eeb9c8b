use Rattle.event_loop.proofs.lingering.Lingering.turn.Given as goal
use Rattle.event_loop.proofs.Turned.{TurnedSoFar}
use Rattle.event_loop.specs.Lingerings.{lingers_in}

abbrev pub invariant-loop : goal.invariant-loop
invariant-loop g l = TurnedSoFar (g.D.Sectors.moment l.device) l.initial.self.refused l.initial.self.queue.items l.counter (lingers_in l.self)
