use Rattle.merging_runs.proofs.sweeps.sweep_for.Given as goal
use Rattle.std.proofs.Common.{◌≡◌, ◌+◌}
use Rattle.merging_runs.specs.KeptRuns.{StaySound}
use Rattle.merging_runs.specs.Value.{AreSwept, size_partial}

abbrev pub invariant-runs : goal.invariant-runs
invariant-runs g l = record {
  swept : AreSwept g.R.Run.agree g.R.Run.from g.R.Run.sizes g.R.Run.elements l.oldest l.fn.runs.items l.runs.items;
  kept : (active : _) → StaySound (g.R.Run.holds active) g.R.Run.from g.R.Run.sizes l.fn.runs.items l.runs.items;
  paid : size_partial g.R.Run.from g.R.Run.sizes g.R.Run.elements l.oldest l.fn.runs.items + l.rest
      ≡ size_partial g.R.Run.from g.R.Run.sizes g.R.Run.elements l.oldest l.runs.items + l.most;
}

abbrev pub decreases-runs : goal.decreases-runs
decreases-runs g l = size_partial g.R.Run.from g.R.Run.sizes g.R.Run.elements l.oldest l.runs.items
