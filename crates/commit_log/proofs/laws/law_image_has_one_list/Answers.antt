use Rattle.commit_log.proofs.laws.law_image_has_one_list.Goals as goal
use Rattle.std.proofs.Common.{arith}
use Rattle.std.proofs.lemmas.Grind.{common_steps}
use Rattle.commit_log.proofs.Recovering.{log_unique, damaged_unique, log_not_damaged, log_is_log, damaged_is_log}
use Rattle.commit_log.proofs.Recovering.{one_head}

pub returns : goal.returns
returns c = grind (arith, common_steps, log_unique, one_head, damaged_unique, log_not_damaged, log_is_log, damaged_is_log)
