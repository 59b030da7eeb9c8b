use Rattle.file_calls.proofs.opened.OpenedFile.advise.Goals as goal
use Rattle.file_calls.specs.HappenedCalls.{real_advice}

pub returns : goal.returns
returns c = real_advice _ _ _ _ _
