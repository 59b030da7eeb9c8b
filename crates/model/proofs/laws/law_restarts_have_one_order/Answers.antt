use Rattle.model.proofs.laws.law_restarts_have_one_order.Goals as goal
use Rattle.model.proofs.Machines.{replays_follow, restart_law}

pub returns : goal.returns
returns c = record { follow = replays_follow; order = restart_law }
