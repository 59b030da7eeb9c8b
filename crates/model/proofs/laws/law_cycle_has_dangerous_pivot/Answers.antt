use Rattle.model.proofs.laws.law_cycle_has_dangerous_pivot.Goals as goal
use Rattle.model.proofs.Cycles.{dangerous_pivot_law, dangerous_cycle_law}

pub returns : goal.returns
returns c = record { pivots = dangerous_pivot_law; cycles = dangerous_cycle_law }
