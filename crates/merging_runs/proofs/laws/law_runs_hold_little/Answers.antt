use Rattle.merging_runs.proofs.laws.law_runs_hold_little.Goals as goal
use Rattle.merging_runs.proofs.RunsAtRest.{runs_hold_little, runs_are_few}

pub returns-clause-elements : goal.returns-clause-elements
returns-clause-elements c = runs_hold_little

pub returns-clause-runs : goal.returns-clause-runs
returns-clause-runs c = runs_are_few
