use Rattle.last_readers.proofs.runs.add_run.Goals as goal
use Rattle.std.proofs.Common.{ap, ◌∙◌}
use Rattle.last_readers.proofs.RunLaws.{greatest_added}
use Rattle.last_readers.specs.Inside.{runs_in}
use Rattle.last_readers.specs.Readers.{greatest_at}

pub returns-clause-numbers : goal.returns-clause-numbers
returns-clause-numbers c = λ k. ap (λ rs. greatest_at (runs_in rs) k) c.push.ensures.runs ∙ greatest_added c.args.runs.now.runs c.args.run k
