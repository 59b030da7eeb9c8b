use Rattle.resp.proofs.parts.Request.push.Goals as goal
use Rattle.std.proofs.Common.{arith}
use Rattle.std.proofs.lemmas.Grind.{common_steps}
use Rattle.std.proofs.lemmas.List.{length-take, length-map}
use Rattle.resp.proofs.Lent.{lent_more, request_more}

pub invariant_of-self : goal.invariant_of-self
invariant_of-self c = grind (arith, common_steps, length-take, length-map, lent_more, request_more)

pub returns : goal.returns
returns c = grind (arith, common_steps, length-take, length-map, lent_more)
