use Rattle.socket_calls.proofs.polled.CountedPoll.wait.Goals as goal
use Rattle.socket_calls.specs.HappenedCalls.{real_report, real_wait}

pub returns-clause-asked : goal.returns-clause-asked
returns-clause-asked c = real_wait _ _

pub returns-clause-reported : goal.returns-clause-reported
returns-clause-reported c = real_report _ _ _
