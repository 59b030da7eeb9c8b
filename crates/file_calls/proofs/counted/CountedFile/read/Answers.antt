use Rattle.file_calls.proofs.counted.CountedFile.read.Goals as goal
use Rattle.std.proofs.Common.{rules}
use Rattle.file_calls.specs.HappenedCalls.{real_error, real_read}

pub returns-clause-happened : goal.returns-clause-happened
returns-clause-happened c = real_read _ _ _ _

pub returns-clause-one_call : goal.returns-clause-one_call
returns-clause-one_call c = record { next = c.count_call.ensures.next; over = search rules; error = λ _. real_error _ }

-- no call was made
pub returns-in_err-count_call-clause-happened : goal.returns-in_err-count_call-clause-happened
returns-in_err-count_call-clause-happened c = real_read _ _ _ _
