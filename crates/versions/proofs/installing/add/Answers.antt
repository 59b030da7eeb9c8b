use Rattle.versions.proofs.installing.add.Goals as goal
use Rattle.std.proofs.Common.{arith}
use Rattle.std.proofs.lemmas.Grind.{common_steps}

pub returns-in-Ok-clause-chains : goal.returns-in-Ok-clause-chains
returns-in-Ok-clause-chains c =
    let d = c.add.ensures.changed in
    (d.after.room, grind (arith, common_steps, d.found, d.changed, d.entries))
