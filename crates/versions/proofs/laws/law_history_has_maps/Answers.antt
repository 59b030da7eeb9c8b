use Rattle.versions.proofs.laws.law_history_has_maps.Goals as goal
use Rattle.versions.proofs.Histories.{maps-history}

pub returns : goal.returns
returns c = maps-history
