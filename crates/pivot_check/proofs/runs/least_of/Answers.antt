use Rattle.pivot_check.proofs.runs.least_of.Goals as goal
use Rattle.std.proofs.Common.{arith}
use Rattle.std.proofs.lemmas.Grind.{common_steps}
use Rattle.pivot_check.specs.Agreeing.{lesser_assoc, least-append}

pub loop-run-preserved : goal.loop-run-preserved
loop-run-preserved c = grind (arith, common_steps, lesser_assoc, least-append)
