use Rattle.event_loop.proofs.connections.admit.Goals as goal
use Rattle.event_loop.proofs.Tables.{come_counted}
use Rattle.event_loop.specs.Sockets.{IsNewSocket}

pub returns : goal.returns
returns g c =
    come_counted (IsNewSocket c.args.accepted) c.args.hub.now c.let_in-answer.new.hub c.args.next.now c.let_in-answer.new.next c.args.refused.now
    c.count_refusal.new.refused c.args.table.now.slots c.let_in-answer.new.table.slots c.let_in-answer.result c.let_in-answer.ensures c.count_refusal.ensures
