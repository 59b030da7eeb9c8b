use Rattle.engine.proofs.engine.Engine.count_pages.Goals as goal
use Rattle.std.proofs.Common.{refl}
use Rattle.engine.proofs.Calls.{same_states}

pub returns-clause-same : goal.returns-clause-same
returns-clause-same g c = same_states c.args.self.now _ (record { log = refl; history = refl }) refl refl
