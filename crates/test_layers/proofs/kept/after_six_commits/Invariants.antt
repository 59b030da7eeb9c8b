use Rattle.test_layers.proofs.kept.after_six_commits.Given as goal
use Rattle.std.proofs.Common.{◌<◌}

abbrev pub invariant-loop-n : goal.invariant-loop-n
invariant-loop-n g l = l.versions.last < l.n
