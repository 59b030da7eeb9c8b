use Rattle.snapshot.proofs.transaction.Transaction.new.Goals as goal
use Rattle.std.proofs.Common.{arith}
use Rattle.std.proofs.lemmas.Grind.{common_steps}
use Rattle.snapshot.proofs.Copies.{new-made}

pub returns-clause-made : goal.returns-clause-made
returns-clause-made c = grind (arith, common_steps, new-made)
