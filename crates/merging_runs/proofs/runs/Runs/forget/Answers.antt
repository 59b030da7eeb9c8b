use Rattle.merging_runs.proofs.runs.Runs.forget.Goals as goal
use Rattle.std.proofs.Common.{◌≡◌, ap, rules}
use Rattle.merging_runs.specs.Value.{RunsValue}

pub old-preserved : goal.old-preserved
old-preserved g c = record {
  agree = search rules;
  left = search rules;
  refused = search rules;
  kept = λ active last h. c.free_old.ensures.kept active last (c.old.invariant.kept active last h);
}

pub returns-clause-kept : goal.returns-clause-kept
returns-clause-kept g c =
    let was : c.self.inside.runs.items ≡ c.free_old.new.self.runs = ap (λ (v : RunsValue g.row.R.Denot). v.runs) c.self.view_is in
    let swept = rw was at c.sweep_all.ensures.kept in
    λ active last h. swept active last (c.free_old.ensures.kept active last (c.old.invariant.kept active last h))
