use Rattle.pivot_check.proofs.committed.Committed.answer.Goals as goal
use Rattle.std.proofs.Common.{arith}
use Rattle.pivot_check.proofs.Judging.{clear_is}

pub returns-in_default : goal.returns-in_default
returns-in_default c = grind (arith, clear_is c.args.self.now.facts c.args.transaction.now)
