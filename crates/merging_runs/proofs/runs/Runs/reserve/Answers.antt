use Rattle.merging_runs.proofs.runs.Runs.reserve.Goals as goal
use Rattle.std.proofs.Common.{◌≡◌, ap}
use Rattle.merging_runs.specs.Value.{RunsValue}

pub returns-clause-kept : goal.returns-clause-kept
returns-clause-kept g c =
    let was : c.self.inside.runs.items ≡ c.args.self.now.runs = ap (λ (v : RunsValue g.row.R.Denot). v.runs) c.self.view_is in
    let kept = rw was at c.open_last.ensures.kept in
    rw c.reserve.ensures.items kept
