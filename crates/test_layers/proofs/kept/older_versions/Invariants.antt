use Rattle.test_layers.proofs.kept.older_versions.Given as goal
use Rattle.std.proofs.Common.{◌≤◌}

abbrev pub invariant-loop-n : goal.invariant-loop-n
invariant-loop-n l = l.count ≤ l.n
