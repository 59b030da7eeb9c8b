use Rattle.event_loop.proofs.socket.Socket.new.Goals as goal
use Rattle.std.proofs.Common.{ap, [], map}
use Rattle.socket_calls.specs.OpenFacts.{latest}
use Rattle.event_loop.specs.Sockets.{departure_of}

pub returns-clause-uncalled : goal.returns-clause-uncalled
returns-clause-uncalled c = let none = c.new-2.ensures in record {
  received = λ reports. (reports.begins c.new.result c.new.ensures.calls).0;
  sent = λ reports. ap (λ l. latest [] l) (reports.begins c.new.result c.new.ensures.calls).1;
  departed = λ reports. ap (λ l. map departure_of l) (reports.begins c.new.result c.new.ensures.calls).1;
  counts = (
    (λ i. (none i).read_blocked),
    (λ i. (none i).read_failed),
    (λ i. (none i).read_ended),
    (λ i. (none i).write_blocked),
    (λ i. (none i).write_failed),
    c.new.ensures.connection,
  );
  last = λ i. (none i).last;
}
