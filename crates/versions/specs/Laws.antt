-- What versions stand for, where none of their calls is made.
use Rattle.std.specs.Prelude.{◌≡◌, ℕ, Bool, ◌||◌, nat_le, IsTrue, List, [], ◌∷◌, ◌++◌}
use Rattle.model.specs.History.{Record, map_at}
use Rattle.model.specs.Map.{KeyMap, IsMap}
use Rattle.versions.specs.Chains.{ChainsValue}
use Rattle.versions.specs.StandsFor.{StandsFor}

-- numbers may cease to be active, and numbers from the greatest installed on may become active
abbrev pub HoldingLaw : Type 0
HoldingLaw = (v : ChainsValue) (active others : ℕ → Bool) (base : KeyMap) (history : List Record)
    → ((n : ℕ) → IsTrue (others n) → IsTrue (active n || nat_le v.last n)) → StandsFor v active base history
    → StandsFor v others base history

-- a record that wrote nothing may follow
abbrev pub ReadOnlyLaw : Type 0
ReadOnlyLaw = (v : ChainsValue) (active : ℕ → Bool) (base : KeyMap) (history : List Record) (r : Record)
    → r.writes ≡ [] → StandsFor v active base history → StandsFor v active base (history ++ r ∷ [])

-- over a map, the records of a history leave a map at each number
abbrev pub MapsLaw : Type 0
MapsLaw = (base : KeyMap) (history : List Record) (n : ℕ) → IsMap base → IsMap (map_at base history n)
