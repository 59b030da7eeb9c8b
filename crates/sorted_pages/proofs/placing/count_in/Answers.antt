use Rattle.sorted_pages.proofs.placing.count_in.Goals as goal
use Rattle.std.proofs.Common.{arith}
use Rattle.std.proofs.lemmas.Grind.{common_steps}
use Rattle.sorted_pages.proofs.Placings.{count_of}

pub returns-in-Some : goal.returns-in-Some
returns-in-Some g c = grind (arith, common_steps, count_of)
