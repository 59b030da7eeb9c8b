use Rattle.std.proofs.Common.{◌<◌}
use Rattle.test_layers.proofs.page_counts.versions_of_many.Given as goal

abbrev pub invariant-loop-n : goal.invariant-loop-n
invariant-loop-n g l = record { below : l.versions.last < l.n }
