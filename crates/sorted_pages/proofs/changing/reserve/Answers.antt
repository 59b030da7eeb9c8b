use Rattle.sorted_pages.proofs.changing.reserve.Goals as goal
use Rattle.std.proofs.Common.{arith}
use Rattle.std.proofs.lemmas.Bool.{both_ways}
use Rattle.std.proofs.lemmas.Grind.{common_steps}
use Rattle.std.proofs.lemmas.Result.{on_ok_weaker}

-- a page that isn't split is not crowded
pub returns-clause-split : goal.returns-clause-split
returns-clause-split g c = grind (arith, common_steps, on_ok_weaker, both_ways)
