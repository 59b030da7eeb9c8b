use Rattle.file_calls.proofs.opened.OpenedFile.length.Goals as goal
use Rattle.file_calls.specs.HappenedCalls.{real_error, real_length}

pub returns-clause-length : goal.returns-clause-length
returns-clause-length c = real_length _ _

pub returns-in_err-metadata-clause-error : goal.returns-in_err-metadata-clause-error
returns-in_err-metadata-clause-error c = real_error _
