use Rattle.commit_log.proofs.record.closed_gate.Goals as goal
use Rattle.std.proofs.Common.{refl}
use Rattle.commit_log.specs.RecordFormat.{closed_gate}

pub returns : goal.returns
unfolding closed_gate
returns c = refl
