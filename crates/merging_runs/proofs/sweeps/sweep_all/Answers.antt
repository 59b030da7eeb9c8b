use Rattle.merging_runs.proofs.sweeps.sweep_all.Goals as goal
use Rattle.std.proofs.Common.{rules}

pub runs-preserved : goal.runs-preserved
runs-preserved g c = record {
  swept = search rules;
  kept = λ active last h. c.sweep_first.ensures.kept active last (c.runs.invariant.kept active last h);
}

pub returns-clause-kept : goal.returns-clause-kept
returns-clause-kept g c = λ active last h. c.sweep_first.ensures.kept active last (c.runs.invariant.kept active last h)
