use Rattle.file_calls.proofs.opened.OpenedFile.open.Goals as goal
use Rattle.std.proofs.Common.{rules}
use Rattle.file_calls.specs.HappenedCalls.{real_error, real_open}

pub returns : goal.returns
returns g c = search (rules, real_open)

pub returns-in_err-open-clause-error : goal.returns-in_err-open-clause-error
returns-in_err-open-clause-error g c = real_error _
