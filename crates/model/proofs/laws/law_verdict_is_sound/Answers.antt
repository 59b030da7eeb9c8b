use Rattle.model.proofs.laws.law_verdict_is_sound.Goals as goal
use Rattle.model.proofs.Answered.{last_may_commit, conflicts_are_recent}
use Rattle.model.proofs.Machines.{verdict_holds}

pub returns : goal.returns
returns c = record { holds = verdict_holds; none = last_may_commit; recent = conflicts_are_recent }
