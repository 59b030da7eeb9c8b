use Rattle.file_calls.proofs.opened.is_link.Goals as goal
use Rattle.file_calls.specs.HappenedCalls.{real_error, real_link}

pub returns-clause-was_link : goal.returns-clause-was_link
returns-clause-was_link g c = real_link _ _

pub returns-in_err-symlink_metadata-clause-error : goal.returns-in_err-symlink_metadata-clause-error
returns-in_err-symlink_metadata-clause-error g c = real_error _
