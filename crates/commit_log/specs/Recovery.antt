-- The map that a log's write sets make.
use Rattle.std.specs.Prelude.{◌≡◌, List, [], ◌∷◌, ◌++◌, refl}
use Rattle.model.specs.Map.{KeyMap, KeyWrite, after_writes}

-- the map with the write sets in it, one after another
abbrev pub map_after : KeyMap → List (List KeyWrite) → KeyMap
map_after m [] = m
map_after m (writes ∷ lists) = map_after (after_writes m writes) lists

-- with one write set more
pub map_after-push : (m : KeyMap) (lists : List (List KeyWrite)) (writes : List KeyWrite)
    → map_after m (lists ++ writes ∷ []) ≡ after_writes (map_after m lists) writes
map_after-push m [] writes = refl
map_after-push m (x ∷ lists) writes = map_after-push (after_writes m x) lists writes
