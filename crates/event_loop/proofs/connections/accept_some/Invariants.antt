use Rattle.event_loop.proofs.connections.accept_some.Given as goal
use Rattle.std.proofs.Common.{◌≡◌, List, length}
use Rattle.socket_calls.specs.declared.counted.AcceptedSocket.{AcceptedSocket}
use Rattle.event_loop.specs.Accepts.{GivesEach, after_accepted}
use Rattle.event_loop.specs.Sockets.{IsNewSocket}
use Rattle.event_loop.specs.Tables.{ComeEach, TableStands}

abbrev pub invariant-loop-accepted : goal.invariant-loop-accepted
invariant-loop-accepted g l =
    TableStands l.hub l.next l.table.slots
    × (g.L.Listener.accepts l.listener ≡ after_accepted l._accepted (g.L.Listener.accepts l.initial.listener))
    × (came : List AcceptedSocket) × (length came ≡ l._accepted) × GivesEach g.L.Listener.answers l.initial.listener came l.listener
    × ComeEach IsNewSocket l.initial.hub l.initial.next l.initial.table.slots l.initial.refused came l.hub l.next l.table.slots l.refused
