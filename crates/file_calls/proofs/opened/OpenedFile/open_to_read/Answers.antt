use Rattle.file_calls.proofs.opened.OpenedFile.open_to_read.Goals as goal
use Rattle.std.proofs.Common.{rules}
use Rattle.file_calls.specs.HappenedCalls.{real_error, real_open_to_read}

pub returns : goal.returns
returns g c = search (rules, real_open_to_read)

pub returns-in_err-metadata-clause-error : goal.returns-in_err-metadata-clause-error
returns-in_err-metadata-clause-error g c = real_error _

pub returns-in_err-open-2-clause-error : goal.returns-in_err-open-2-clause-error
returns-in_err-open-2-clause-error g c = real_error _
