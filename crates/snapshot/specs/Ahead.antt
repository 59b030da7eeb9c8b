-- The pairs that writes over pairs have left.
use Rattle.std.specs.Borrow.{Bor}
use Rattle.std.specs.Prelude.{ℕ, ◌∷◌, take, Option, Some, None}
use Rattle.model.specs.KeyBytes.{pair_bytes}
use Rattle.model.specs.Map.{Bytes, KeyMap}
use Rattle.model.specs.declared.keys.KeyRef.{KeyRef}
use Rattle.versions.specs.Lent.{range_pairs}
use Rattle.snapshot.specs.Merged.{merged}
use Rattle.snapshot.specs.declared.merge.MergedPairs.{MergedPairs}

-- the pair that was looked at stands before the others
abbrev pub with_ahead : Option (KeyRef × Bor Bytes) → KeyMap → KeyMap
with_ahead None ps = ps
with_ahead (Some p) ps = pair_bytes p ∷ ps

abbrev pub merged_pairs : MergedPairs → KeyMap
merged_pairs m = merged m.writes.now (with_ahead m.ahead (range_pairs m.pairs))

-- the first of them, `limit` at most
abbrev pub page_of : ℕ → MergedPairs → KeyMap
page_of limit m = take limit (merged_pairs m)
