use Rattle.pivot_check.proofs.laws.law_few_kept.Goals as goal
use Rattle.pivot_check.proofs.FewKept.{few_kept, keeps_little}

pub returns-clause-run : goal.returns-clause-run
returns-clause-run c = few_kept

pub returns-clause-runs : goal.returns-clause-runs
returns-clause-runs c = keeps_little
