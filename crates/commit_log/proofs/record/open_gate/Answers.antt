use Rattle.commit_log.proofs.record.open_gate.Goals as goal
use Rattle.std.proofs.Common.{refl}
use Rattle.commit_log.specs.RecordFormat.{open_gate}

pub returns : goal.returns
unfolding open_gate
returns c = refl
