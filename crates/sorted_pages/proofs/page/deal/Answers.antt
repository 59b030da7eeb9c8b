use Rattle.sorted_pages.proofs.page.deal.Goals as goal
use Rattle.std.proofs.Common.{arith}
use Rattle.std.proofs.lemmas.Grind.{common_steps}
use Rattle.sorted_pages.proofs.Deals.{dealt-lower, dealt-upper}

pub loop-entry-preserved-then-len-at : goal.loop-entry-preserved-then-len-at
loop-entry-preserved-then-len-at g c = grind (arith, common_steps, dealt-lower)

pub loop-entry-preserved : goal.loop-entry-preserved
loop-entry-preserved g c = grind (arith, common_steps, dealt-upper)
