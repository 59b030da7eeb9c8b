use Rattle.socket_calls.proofs.counted.CountedSocket.write.Goals as goal
use Rattle.socket_calls.specs.HappenedCalls.{real_send}

pub returns-clause-happened : goal.returns-clause-happened
returns-clause-happened g c = λ fewer. real_send _ _ _
