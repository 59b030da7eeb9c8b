use Rattle.last_readers.proofs.merging.merge.Given as goal
use Rattle.std.proofs.Common.{◌≡◌, ◌+◌, ◌≤◌, ◌++◌, length, true}
use Rattle.model.specs.Map.{Bytes}
use Rattle.last_readers.specs.Merging.{later}
use Rattle.last_readers.specs.Steps.{cut, number_at, merged_at, steps_rise}

abbrev pub invariant-steps : goal.invariant-steps
invariant-steps l = record {
  same : (k : Bytes) → cut 0 (merged_at l.first.items l.second.items l.places.items k) ≡ later 0 (number_at l.fn.first.items k) (number_at l.fn.second.items k);
  first : steps_rise (l.first.items ++ l.places.items) ≡ true;
  second : steps_rise (l.second.items ++ l.places.items) ≡ true;
  room : length l.places.items + (length l.first.items + length l.second.items) ≤ l.places.capacity;
}

abbrev pub decreases-steps : goal.decreases-steps
decreases-steps l = length l.first.items + length l.second.items
