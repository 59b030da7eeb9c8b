-- What a buffer of writes has at a key, and when one more is refused.
use Rattle.std.specs.Cmp.Lexicographic.{slice_cmp}
use Rattle.std.specs.FinMap.Entries.{find, put, is_sorted}
use Rattle.std.specs.List.{AllByRecursion}
use Rattle.std.specs.Ordering.{nat_cmp}
use Rattle.std.specs.Prelude.{List, Bool, ◌≤◌, length, nat_lt, Option, Some, None, not, ◌&&◌, is_some, ⊤, T}
use Rattle.model.specs.Bounds.{value_max}
use Rattle.model.specs.Map.{Bytes, KeyWrite}

-- the last write of the key
abbrev pub last_write : List KeyWrite → Bytes → Option (Option Bytes)
last_write ws k = find (slice_cmp nat_cmp) k ws

-- the writes with this one
abbrev pub with_write : List KeyWrite → Bytes → Option Bytes → List KeyWrite
with_write ws k v = put (slice_cmp nat_cmp) k v ws

-- the key isn't written, and there is no room for one more
abbrev pub is_full_for_key : List KeyWrite → Bytes → Bool
is_full_for_key ws k = not (is_some (last_write ws k)) && not (nat_lt (length ws) 64)

abbrev pub IsShortValue : Option Bytes → Type 0
IsShortValue None = ⊤
IsShortValue (Some v) = length v ≤ value_max

abbrev pub IsWithinLimits : KeyWrite → Type 0
IsWithinLimits w = (1 ≤ length w.0) × (length w.0 ≤ 256) × IsShortValue w.1

-- at most 64 writes by strictly rising key, each within the limits of keys and values
pub record AreEntries (ws : List KeyWrite) : Type 0 where
  pub sorted : T (is_sorted (slice_cmp nat_cmp) ws)
  pub few : length ws ≤ 64
  pub within : AllByRecursion IsWithinLimits ws
