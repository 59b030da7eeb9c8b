-- Keys, ranges of keys, and finite maps from keys to values. Keys stand in the order of their bytes, a shorter key
-- before its extensions.
use Rattle.std.specs.Cmp.Lexicographic.{slice_cmp}
use Rattle.std.specs.FinMap.Entries.{find, put, where_key, is_sorted}
use Rattle.std.specs.Ordering.{is_eq, is_lt, is_le, nat_cmp}
use Rattle.std.specs.Prelude.{ℕ, ⊤, Bool, T, true, not, ◌&&◌, List, [], ◌∷◌, Option, Some, None}
use Rattle.std.specs.declared.cmp.Ordering.{Ordering}
use Rattle.model.specs.Key.{IsKey, IsValue}

abbrev pub Bytes : Type 0
Bytes = List ℕ

abbrev pub key_cmp : Bytes → Bytes → Ordering
key_cmp j k = slice_cmp nat_cmp j k

abbrev pub is_same_key : Bytes → Bytes → Bool
is_same_key j k = is_eq (key_cmp j k)

-- a finite map from keys to values: its pairs by strictly rising key (`IsMap`)
abbrev pub KeyMap : Type 0
KeyMap = List (Bytes × Bytes)

abbrev pub IsMap : KeyMap → Type 0
IsMap m = T (is_sorted (slice_cmp nat_cmp) m)

-- each key and each value has a length in bounds
abbrev pub IsInBounds : KeyMap → Type 0
IsInBounds [] = ⊤
IsInBounds (p ∷ ps) = IsKey p.0 × IsValue p.1 × IsInBounds ps

-- the value of the key, if it has one
abbrev pub value_at : KeyMap → Bytes → Option Bytes
value_at m k = find (slice_cmp nat_cmp) k m

-- a written key with its last value, or `None` where it was deleted
abbrev pub KeyWrite : Type 0
KeyWrite = Bytes × Option Bytes

-- the map with one write in it
abbrev pub after_write : KeyMap → Bytes → Option Bytes → KeyMap
after_write m k None = where_key (slice_cmp nat_cmp) (λ q. not (is_same_key k q)) m
after_write m k (Some v) = put (slice_cmp nat_cmp) k v m

-- the map with the writes in it, one after another
abbrev pub after_writes : KeyMap → List KeyWrite → KeyMap
after_writes m [] = m
after_writes m (w ∷ ws) = after_writes (after_write m w.0 w.1) ws

-- whether k < hi, where there is an upper end hi
abbrev pub is_below : Bytes → Option Bytes → Bool
is_below k None = true
is_below k (Some hi) = is_lt (key_cmp k hi)

-- whether lo ≤ k < hi
abbrev pub is_in_range : Bytes → Option Bytes → Bytes → Bool
is_in_range lo hi k = is_le (key_cmp lo k) && is_below k hi

-- whether hi ≤ lo, so that no key is in range
abbrev pub is_empty_range : Bytes → Option Bytes → Bool
is_empty_range lo hi = not (is_below lo hi)

-- the pairs with lo ≤ k < hi, by rising key
abbrev pub pairs_in_range : KeyMap → Bytes → Option Bytes → List (Bytes × Bytes)
pairs_in_range m lo hi = where_key (slice_cmp nat_cmp) (is_in_range lo hi) m
