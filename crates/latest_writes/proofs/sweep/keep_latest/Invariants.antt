use Rattle.latest_writes.proofs.sweep.keep_latest.Given as goal
use Rattle.std.proofs.Common.{[], ◌∷◌, ◌++◌}
use Rattle.model.specs.Map.{after_writes}
use Rattle.latest_writes.proofs.Sweeping.{IsSwept}
use Rattle.latest_writes.specs.Buffered.{HasOneOfEach}

abbrev pub invariant-loop-entry : goal.invariant-loop-entry
invariant-loop-entry l = record {
  swept : IsSwept l.fn.entries.items (after_writes [] l.kept.items) l.latest l.entry-iterator.rest.items;
  one_of_each : HasOneOfEach (l.kept.items ++ l.latest ∷ []);
}
