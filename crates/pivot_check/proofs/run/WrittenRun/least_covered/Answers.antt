use Rattle.pivot_check.proofs.run.WrittenRun.least_covered.Goals as goal
use Rattle.std.proofs.Common.{arith}
use Rattle.pivot_check.specs.Agreeing.{lesser_assoc, least-append}

pub returns : goal.returns
returns c = grind (arith, lesser_assoc, least-append)
