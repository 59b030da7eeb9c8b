use Rattle.event_loop.proofs.connections.prepare.Goals as goal
use Rattle.std.proofs.Common.{subst, sym}
use Rattle.socket_calls.specs.OpenFacts.{IsConnectionOf}
use Rattle.stream_driver.specs.Traffic.{IsUncalled}
use Rattle.event_loop.proofs.Socketing.{prepared}
use Rattle.event_loop.specs.Sockets.{IsSetUp, SocketsReport, traffic_of}
use Rattle.event_loop.specs.declared.socket.Socket.{Socket}

pub returns-in-Ok : goal.returns-in-Ok
returns-in-Ok c =
    let same = sym c.set_up.ensures.same in
    prepared c.args.accepted c.args.key c.args.number c.set_up.new.self c.buffered.result c.buffered.ensures
    (subst (λ (s : Socket). IsUncalled SocketsReport c.args.number (traffic_of s)) same c.new-socket.ensures.uncalled)
    (subst (λ (s : Socket). IsSetUp (record { 0 = c.args.key }) s.socket) same c.in-Ok.ensures.set_up)
    (subst (λ (s : Socket). IsConnectionOf c.args.accepted s.socket) same c.new-socket.ensures.connection)

pub returns-in-Err : goal.returns-in-Err
returns-in-Err c = (c.in-Err.field-0, c.in-Err.ensures.error)
