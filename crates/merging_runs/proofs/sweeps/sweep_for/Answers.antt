use Rattle.merging_runs.proofs.sweeps.sweep_for.Goals as goal
use Rattle.std.proofs.Common.{rules}

pub returns-then-rest-work-clause-kept : goal.returns-then-rest-work-clause-kept
returns-then-rest-work-clause-kept g c = λ active last h. c.sweep_first.ensures.kept active last (c.runs.invariant.kept active last h)

pub runs-preserved : goal.runs-preserved
runs-preserved g c = record {
  swept = search rules;
  kept = λ active last h. c.sweep_first.ensures.kept active last (c.runs.invariant.kept active last h);
  paid = search rules;
}

pub returns-clause-kept : goal.returns-clause-kept
returns-clause-kept g c = λ active last h. c.sweep_first.ensures.kept active last (c.runs.invariant.kept active last h)
