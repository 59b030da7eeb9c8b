use Rattle.file_calls.proofs.counted.CountedFile.write_zeros.Goals as goal
use Rattle.std.proofs.Common.{rules}
use Rattle.file_calls.specs.HappenedCalls.{real_error, real_write}

pub returns-clause-happened : goal.returns-clause-happened
returns-clause-happened c = real_write _ _ _ _

pub returns-in_err-_written-clause-happened : goal.returns-in_err-_written-clause-happened
returns-in_err-_written-clause-happened c = real_write _ _ _ _

pub returns-in_err-_written-clause-one_call : goal.returns-in_err-_written-clause-one_call
returns-in_err-_written-clause-one_call c = record { next = c.count_call.ensures.next; over = search rules; error = λ _. real_error _ }

-- no call was made
pub returns-in_err-count_call-clause-happened : goal.returns-in_err-count_call-clause-happened
returns-in_err-count_call-clause-happened c = real_write _ _ _ _
