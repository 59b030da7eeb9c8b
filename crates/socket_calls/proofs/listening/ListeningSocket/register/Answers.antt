use Rattle.socket_calls.proofs.listening.ListeningSocket.register.Goals as goal
use Rattle.std.proofs.Common.{rules}
use Rattle.socket_calls.specs.HappenedCalls.{real_accepts_reported}

pub returns-clause-registered : goal.returns-clause-registered
returns-clause-registered c = search (rules, real_accepts_reported)
