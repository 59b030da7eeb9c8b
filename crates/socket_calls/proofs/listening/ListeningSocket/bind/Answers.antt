use Rattle.socket_calls.proofs.listening.ListeningSocket.bind.Goals as goal
use Rattle.socket_calls.specs.HappenedCalls.{real_listen}

pub returns-clause-listens : goal.returns-clause-listens
returns-clause-listens g c = real_listen _ _
