use Rattle.file_calls.proofs.opened.without_links.Goals as goal
use Rattle.std.proofs.Common.{ℕ, Err}
use Rattle.file_calls.specs.HappenedCalls.{real_error, real_way}

pub returns-then-realpath-lt0-clause-error : goal.returns-then-realpath-lt0-clause-error
returns-then-realpath-lt0-clause-error c = real_error {A = ℕ} (Err c.from_raw_os_error.result)

pub returns-in-Ok-clause-leads : goal.returns-in-Ok-clause-leads
returns-in-Ok-clause-leads c = real_way _ _

pub returns-in-Err-clause-error : goal.returns-in-Err-clause-error
returns-in-Err-clause-error c = real_error {A = ℕ} (Err c.from.result)
