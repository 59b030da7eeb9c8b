-- The histories that versions stand for.
use Rattle.std.specs.List.{AllByRecursion}
use Rattle.std.specs.Prelude.{◌≡◌, ◌↔◌, ℕ, ◌+◌, ◌≤◌, Bool, ◌||◌, ◌&&◌, nat_le, IsTrue, List, [], ◌∷◌, ◌++◌, length}
use Rattle.std.specs.Prelude.{Option, Some, option_map, if◌then◌else◌}
use Rattle.model.specs.Dependency.{writes_key}
use Rattle.model.specs.History.{Record, map_at}
use Rattle.model.specs.Map.{Bytes, KeyMap, KeyWrite, IsMap, value_at}
use Rattle.versions.specs.Chains.{ChainsValue}
use Rattle.versions.specs.Listings.{IsClassified}
use Rattle.versions.specs.Meaning.{map_seen, newest_of, is_among, is_known}
use Rattle.versions.specs.Pins.{AreUnderPins}

-- the commit number of the last record that writes the key, and d where none does
abbrev pub last_writer_from : Option ℕ → List Record → Bytes → Option ℕ
last_writer_from d [] k = d
last_writer_from d (r ∷ rs) k = last_writer_from (if writes_key r k then Some r.commit else d) rs k

-- the commit number of the key's last writer, and 0 for a key of the base that has none
abbrev pub last_writer : KeyMap → List Record → Bytes → Option ℕ
last_writer base history k = last_writer_from (option_map (λ _. 0) (value_at base k)) history k

-- the versions stand for the history over the base at the active numbers
pub record StandsFor (v : ChainsValue) (active : ℕ → Bool) (base : KeyMap) (history : List Record) : Type 0 where
  pub is_map : IsMap base
  -- a number that is active, or that is at least the greatest installed, sees the map at that number
  pub maps : (n : ℕ) → IsTrue (active n || nat_le v.last n) → map_seen v n ≡ map_at base history n
  pub newest : (k : Bytes) → newest_of v k ≡ last_writer base history k
  -- what was installed has the number of a record
  pub within : v.last ≤ length history
  -- what each active number sees of each page is known
  pub known : (n : ℕ) → IsTrue (active n) → IsTrue (is_known n v)
  -- no active number above a pin sees what is listed under it, so the greatest below can take its place
  pub pinned : AreUnderPins active v v.groups

-- both stand for the same histories
abbrev pub StandForSame : ChainsValue → ChainsValue → Type 0
StandForSame old new = (active : ℕ → Bool) (base : KeyMap) (history : List Record) → StandsFor old active base history
    ↔ StandsFor new active base history

-- what the old ones stand for, the new ones stand for with one record more, of commit n and these writes, where each
-- active number is held
abbrev pub StandWithCommit : ChainsValue → ChainsValue → ℕ → List KeyWrite → Type 0
StandWithCommit old new n ws =
    (active : ℕ → Bool) (base : KeyMap) (history : List Record) (r : Record) → StandsFor old active base history
    → ((m : ℕ) → IsTrue (active m) → IsTrue (is_among old.held m))
    → length history + 1 ≡ n → r.commit ≡ n → r.writes ≡ ws
    → StandsFor new active base (history ++ r ∷ [])

-- what the old ones stand for, the new ones stand for where of the active numbers only these stay so
abbrev pub StandWhereAmong : List ℕ → ChainsValue → ChainsValue → Type 0
StandWhereAmong bs old new = (active : ℕ → Bool) (base : KeyMap) (history : List Record)
    → StandsFor old active base history
    → StandsFor new (λ n. active n && is_among bs n) base history

-- no list is unclassified where each of these numbers was active
abbrev pub ClassifiedWhereActive : List ℕ → ChainsValue → ChainsValue → Type 0
ClassifiedWhereActive bs old new =
    (active : ℕ → Bool) (base : KeyMap) (history : List Record) → StandsFor old active base history
    → ((n : ℕ) → IsTrue (is_among bs n) → IsTrue (active n))
    → AllByRecursion IsClassified new.groups

-- each of these numbers is held, where what it sees was known
abbrev pub AreHeldWhereKnown : List ℕ → ChainsValue → ChainsValue → Type 0
AreHeldWhereKnown bs old new = (n : ℕ) → IsTrue (is_among bs n) → IsTrue (is_known n old) → IsTrue (is_among new.held n)
