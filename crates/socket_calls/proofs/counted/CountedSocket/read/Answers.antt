use Rattle.socket_calls.proofs.counted.CountedSocket.read.Goals as goal
use Rattle.socket_calls.specs.HappenedCalls.{real_receive}

pub returns-clause-happened : goal.returns-clause-happened
returns-clause-happened c = λ fewer. real_receive _ _
