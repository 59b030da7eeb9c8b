use Rattle.sorted_pages.proofs.passing.passed_pages.Goals as goal
use Rattle.sorted_pages.proofs.Steps.{behind_passed, passed_known}

pub returns-clause-known : goal.returns-clause-known
returns-clause-known g c =
    passed_known c.args.reader c.unwrap_or.result c.min.result c.first_looked_at.result c.args.pages.now c.args.summaries.now c.first_looked_at.ensures
    c.unwrap_or.ensures
    c.min.ensures

pub returns-clause-rest : goal.returns-clause-rest
returns-clause-rest g c =
    behind_passed c.args.reader c.unwrap_or.result c.min.result c.first_looked_at.result c.args.pages.now c.args.summaries.now c.first_looked_at.ensures
    c.unwrap_or.ensures
    c.min.ensures
