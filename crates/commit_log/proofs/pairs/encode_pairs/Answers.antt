use Rattle.commit_log.proofs.pairs.encode_pairs.Goals as goal
use Rattle.std.proofs.Common.{arith}
use Rattle.std.proofs.lemmas.Grind.{common_steps}
use Rattle.std.proofs.lemmas.List.{length-take}
use Rattle.commit_log.proofs.Putting.{length-puts}

pub returns : goal.returns
returns c = grind (arith, common_steps, length-puts, length-take)
