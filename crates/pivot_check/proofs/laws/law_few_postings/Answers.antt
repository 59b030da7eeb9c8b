use Rattle.pivot_check.proofs.laws.law_few_postings.Goals as goal
use Rattle.pivot_check.proofs.FewPostings.{few_postings}

pub returns : goal.returns
returns c = few_postings
