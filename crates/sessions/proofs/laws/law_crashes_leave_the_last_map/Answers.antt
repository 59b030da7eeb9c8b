use Rattle.sessions.proofs.laws.law_crashes_leave_the_last_map.Goals as goal
use Rattle.sessions.proofs.FoundMapLaws.{found_after, found_during}

pub returns-clause-after : goal.returns-clause-after
returns-clause-after c = found_after

pub returns-clause-during : goal.returns-clause-during
returns-clause-during c = found_during
