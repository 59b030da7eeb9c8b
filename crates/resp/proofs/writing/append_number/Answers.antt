use Rattle.resp.proofs.writing.append_number.Goals as goal
use Rattle.std.proofs.Common.{arith, length-append}
use Rattle.std.proofs.lemmas.Fmt.{length-decimal-le}
use Rattle.std.proofs.lemmas.Grind.{common_steps}

pub returns-clause-brief : goal.returns-clause-brief
returns-clause-brief c = grind (arith, common_steps, length-append, length-decimal-le)
