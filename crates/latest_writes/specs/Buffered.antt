-- How much is buffered of the writes of a log while it is read.
use Rattle.std.specs.Ordering.{is_lt}
use Rattle.std.specs.Prelude.{◌≡◌, ◌≢◌, ◌≤◌, ℕ, ◌+◌, ◌-◌, ◌*◌, ◌^◌, max, min, ⊤, true, List, [], ◌∷◌, ◌++◌, length}
use Rattle.std.specs.Prelude.{None, Some, sum_by}
use Rattle.model.specs.Map.{KeyWrite, key_cmp}

-- about the bytes that a write takes in memory: those of its value, and 128
abbrev pub weight : KeyWrite → ℕ
weight (key, None) = 128
weight (key, Some value) = length value + 128

abbrev pub weight_of : List KeyWrite → ℕ
weight_of writes = sum_by weight writes

-- The keys rise, so that each has one write, and none but the last is a deletion.
abbrev pub HasOneOfEach : List KeyWrite → Type 0
HasOneOfEach [] = ⊤
HasOneOfEach (w ∷ []) = ⊤
HasOneOfEach (w ∷ v ∷ writes) = (is_lt (key_cmp w.0 v.0) ≡ true) × (w.1 ≢ None) × HasOneOfEach (v ∷ writes)

-- Writes are buffered that were kept when others were left out for the last time, with one of each key, and those that
-- came later. All weigh at most 8 MiB, or twice as much as those that were kept. `total` is their weight, and `limit`
-- the one at which it is done again.
pub record IsBuffered (writes : List KeyWrite) (total limit : ℕ) : Type 0 where
  pub kept : List KeyWrite
  pub later : List KeyWrite
  pub joined : writes ≡ kept ++ later
  pub one_of_each : HasOneOfEach kept
  pub few : weight_of writes ≤ max (2 ^ 23) (2 * weight_of kept)
  pub total_is : total ≡ min (weight_of writes) (2 ^ 64 - 1)
  pub limit_is : limit ≡ max (2 ^ 23) (min (2 * weight_of kept) (2 ^ 64 - 1))
