use Rattle.socket_calls.proofs.counted.CountedSocket.end_writing.Goals as goal
use Rattle.std.proofs.Common.{rules}
use Rattle.socket_calls.specs.HappenedCalls.{real_end_writing, real_fault}

pub returns-clause-ended : goal.returns-clause-ended
returns-clause-ended c = search (rules, real_end_writing)

pub returns-clause-error : goal.returns-clause-error
returns-clause-error c = real_fault _
