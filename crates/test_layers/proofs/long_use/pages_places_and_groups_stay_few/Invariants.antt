use Rattle.test_layers.proofs.long_use.pages_places_and_groups_stay_few.Given as goal
use Rattle.std.proofs.Common.{◌<◌}

abbrev pub invariant-loop-n : goal.invariant-loop-n
invariant-loop-n g l = l.versions.last < l.n-counter
