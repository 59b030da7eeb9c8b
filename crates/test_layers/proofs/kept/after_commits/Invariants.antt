use Rattle.test_layers.proofs.kept.after_commits.Given as goal
use Rattle.std.proofs.Common.{◌≤◌}

abbrev pub invariant-loop-commits : goal.invariant-loop-commits
invariant-loop-commits g l = l.versions.last ≤ l.commits
