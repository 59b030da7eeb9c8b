use Rattle.socket_calls.proofs.counted.CountedSocket.send_at_once.Goals as goal
use Rattle.std.proofs.Common.{rules}
use Rattle.socket_calls.specs.HappenedCalls.{real_fault, real_send_at_once}

pub returns-clause-sends : goal.returns-clause-sends
returns-clause-sends c = search (rules, real_send_at_once)

pub returns-clause-error : goal.returns-clause-error
returns-clause-error c = real_fault _
