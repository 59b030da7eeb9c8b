use Rattle.file_calls.proofs.counted.CountedFile.close.Goals as goal
use Rattle.file_calls.specs.HappenedCalls.{real_close}

pub returns : goal.returns
returns c = real_close _
