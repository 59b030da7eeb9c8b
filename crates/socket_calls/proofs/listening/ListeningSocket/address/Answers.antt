use Rattle.socket_calls.proofs.listening.ListeningSocket.address.Goals as goal
use Rattle.socket_calls.specs.HappenedCalls.{real_address}

pub returns : goal.returns
returns c = real_address _ _
