use Rattle.test_layers.proofs.kept.no_chain_grows_while_lists_are_garbage.Given as goal
use Rattle.std.proofs.Common.{◌<◌}

abbrev pub invariant-loop-n : goal.invariant-loop-n
invariant-loop-n g l = l.versions.last < l.n
