use Rattle.file_calls.proofs.opened.OpenedFile.sync_directory.Goals as goal
use Rattle.std.proofs.Common.{rules}
use Rattle.file_calls.specs.HappenedCalls.{real_directory, real_error}

pub returns-clause-synced : goal.returns-clause-synced
returns-clause-synced g c = search (rules, real_directory)

pub returns-clause-error : goal.returns-clause-error
returns-clause-error g c = real_error _

pub returns-in_err-open-clause-error : goal.returns-in_err-open-clause-error
returns-in_err-open-clause-error g c = real_error _
