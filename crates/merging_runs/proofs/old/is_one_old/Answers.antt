use Rattle.merging_runs.proofs.old.is_one_old.Goals as goal
use Rattle.std.proofs.Common.{◌∙◌, ap, arith}
use Rattle.std.specs.Prelude.{is_some}
use Rattle.merging_runs.proofs.OldRuns.{is_one}
use Rattle.merging_runs.specs.Value.{contents_of}

pub returns : goal.returns
returns g c = c.is_some.ensures ∙ ap is_some c.first_old.ensures
    ∙ is_one (contents_of g.R.Run.from g.R.Run.sizes g.R.Run.elements) c.args.oldest c.args.runs.now (λ r. omega arith)
