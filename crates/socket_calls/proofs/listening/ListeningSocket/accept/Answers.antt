use Rattle.socket_calls.proofs.listening.ListeningSocket.accept.Goals as goal
use Rattle.std.proofs.Common.{rules}
use Rattle.socket_calls.specs.HappenedCalls.{real_accept}

pub returns-clause-gave : goal.returns-clause-gave
returns-clause-gave c = search (rules, real_accept)
