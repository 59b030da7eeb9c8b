use Rattle.pivot_check.proofs.bound.Bound.above.Goals as goal
use Rattle.std.proofs.Common.{arith}
use Rattle.std.proofs.lemmas.Bool.Decides.{nat_tests}

pub returns-clause-postings : goal.returns-clause-postings
returns-clause-postings c = λ p lt h. grind (arith, nat_tests)
