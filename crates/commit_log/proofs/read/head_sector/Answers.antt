use Rattle.commit_log.proofs.read.head_sector.Goals as goal
use Rattle.std.proofs.Common.{◌∷◌, [], ◌++◌, ℕ, replicate, ap}
use Rattle.commit_log.specs.Format.{head_sector}

pub returns : goal.returns
unfolding head_sector
returns c = ap (λ (b : ℕ). (83 ∷ 83 ∷ 73 ∷ 75 ∷ 86 ∷ 76 ∷ 71 ∷ b ∷ []) ++ replicate 504 0) c.version.ensures
