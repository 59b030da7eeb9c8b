use Rattle.pivot_check.proofs.written.add_all.Given as goal
use Rattle.std.proofs.Common.{◌≡◌, ◌≤◌, ◌-◌, ◌++◌, length}
use Rattle.std.specs.Vec.{vec_len, vec_capacity}
use Rattle.std.specs.Vec.Iter.{into_iter_items}
use Rattle.pivot_check.specs.Postings.{postings_by}

-- the postings that were made and those of the keys that are left are those of all keys
abbrev pub invariant-loop-key : goal.invariant-loop-key
invariant-loop-key l = record {
  room : length (into_iter_items l.key-iterator) ≤ vec_capacity l.postings - vec_len l.postings;
  same : l.postings.items ++ postings_by l.number l.has_earlier_target (into_iter_items l.key-iterator)
      ≡ postings_by l.number l.has_earlier_target (into_iter_items l.initial.key-iterator);
}
