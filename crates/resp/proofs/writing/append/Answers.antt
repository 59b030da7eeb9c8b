use Rattle.resp.proofs.writing.append.Goals as goal
use Rattle.std.proofs.Common.{arith, length-append}
use Rattle.std.proofs.lemmas.Grind.{common_steps}
use Rattle.resp.proofs.Appending.{joined_more, joined_front, not_ok, taken_back}

pub returns-then-is_err : goal.returns-then-is_err
returns-then-is_err c = grind (arith, common_steps, not_ok, joined_more, length-append, taken_back, joined_front)
