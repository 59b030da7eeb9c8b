use Rattle.merging_runs.proofs.runs.Runs.take_old.Goals as goal
use Rattle.std.proofs.Common.{◌≡◌, ap}
use Rattle.merging_runs.specs.Value.{RunsValue}

pub returns-clause-kept : goal.returns-clause-kept
returns-clause-kept g c =
    let was : c.self.inside.runs.items ≡ c.args.self.now.runs = ap (λ (v : RunsValue g.row.R.Denot). v.runs) c.self.view_is in
    rw was at c.take_old.ensures.kept
