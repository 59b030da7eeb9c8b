use Rattle.file_calls.proofs.opened.OpenedFile.drop_copies.Goals as goal
use Rattle.std.proofs.Common.{ℕ, Err}
use Rattle.file_calls.specs.HappenedCalls.{real_error}

pub returns-else-advised-eq0-clause-error : goal.returns-else-advised-eq0-clause-error
returns-else-advised-eq0-clause-error c = real_error {A = ℕ} (Err c.from_raw_os_error.result)
