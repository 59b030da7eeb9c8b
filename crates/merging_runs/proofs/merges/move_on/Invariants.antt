use Rattle.merging_runs.proofs.merges.move_on.Given as goal
use Rattle.std.proofs.Common.{[], ◌∷◌, ◌≤◌, ◌-◌}
use Rattle.std.specs.Prelude.{◌&&◌, nat_le}
use Rattle.merging_runs.specs.KeptRuns.{ReplacesRun}
use Rattle.merging_runs.specs.MadeRuns.{IsMade}
use Rattle.merging_runs.specs.RunSizes.{IsMerged}

abbrev pub invariant-moves : goal.invariant-moves
invariant-moves g l = record {
  agree : g.R.Run.agree (λ b. nat_le l.oldest b && g.R.Run.asks l.active b) (l.run ∷ []) (l.fn.run ∷ []);
  made : IsMade (g.R.Run.makes l.active l.oldest) l.fn.run l.run;
  rest : l.rest ≤ l.most;
  merged : IsMerged g.R.Run.each (l.most - l.rest) (g.R.Run.sizes l.fn.run) (g.R.Run.sizes l.run);
  kept : ReplacesRun (g.R.Run.holds l.active) g.R.Run.from g.R.Run.sizes l.fn.run l.run;
}

abbrev pub decreases-moves : goal.decreases-moves
decreases-moves g l = l.rest
