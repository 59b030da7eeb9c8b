use Rattle.event_loop.proofs.server.EventLoop.law_each_has_its_turn.Goals as goal
use Rattle.event_loop.proofs.Ordering.{each_soon}
use Rattle.event_loop.proofs.Progress.{each_becomes_ready, each_gets_on}
use Rattle.event_loop.specs.contracts.socket.SocketStream.TheImpl.{ghosts}

pub returns : goal.returns
returns g c = record {
  soon = λ old new turn key ready. each_soon ghosts.reports ghosts.traffic old new turn key c.law_each_comes_nearer.ensures ready;
  ready = λ sockets polls old new turn key entry is alive ready.
      each_becomes_ready ghosts.reports ghosts.traffic sockets polls old new turn key entry is alive ready;
  gets_on = λ old new turn h stands. each_gets_on ghosts.reports ghosts.traffic old new turn h stands;
}
