use Rattle.latest_writes.proofs.sweep.sort.Goals as goal
use Rattle.std.proofs.Common.{arith}
use Rattle.std.proofs.lemmas.Grind.{common_steps}
use Rattle.std.proofs.lemmas.List.Sorted.{answers_always}
use Rattle.latest_writes.proofs.Stable.{stable, is_before_order}

pub returns : goal.returns
returns c = grind (arith, common_steps, stable, is_before_order, answers_always)
