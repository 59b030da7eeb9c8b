-- What versions mean: a map for each number, the number of each key's newest version, and how many versions are kept.
use Rattle.std.specs.List.{AllByRecursion, list_any}
use Rattle.std.specs.Prelude.{◌≡◌, ℕ, ◌+◌, ◌-◌, ◌⊎◌, Bool, ◌||◌, nat_le, IsTrue, List, [], ◌∷◌, length, Option}
use Rattle.std.specs.Prelude.{Some, None, option_map, if◌then◌else◌}
use Rattle.model.specs.Map.{Bytes, KeyMap, KeyWrite, is_same_key, after_writes}
pub use Rattle.sorted_pages.specs.Held.{is_among}
use Rattle.versions.specs.Chains.{Stamped, ChainValue, Chains, ChainsValue, version_at, visible, find_chain}
use Rattle.versions.specs.Chains.{reclaimed}
use Rattle.versions.specs.Groups.{GroupValue}

-- the map that number n sees
abbrev pub map_seen : ChainsValue → ℕ → KeyMap
map_seen v n = visible n v.chains

-- the number of the key's newest version
abbrev pub newest_of : ChainsValue → Bytes → Option ℕ
newest_of v k = option_map (λ (c : ChainValue). c.newest.number) (find_chain k v.chains)

abbrev pub kept_in : Option ChainValue → ℕ
kept_in None = 0
kept_in (Some c) = length c.older + 1

-- how many versions of the key are kept
abbrev pub versions_kept : ChainsValue → Bytes → ℕ
versions_kept v k = kept_in (find_chain k v.chains)

-- how many of the group's lists are garbage where these numbers are active
abbrev pub garbage_for : List ℕ → GroupValue → ℕ
garbage_for bs g = if is_among bs g.pin then g.garbage else g.seen + g.garbage

abbrev pub garbage_in : List ℕ → List GroupValue → ℕ
garbage_in bs [] = 0
garbage_in bs (g ∷ gs) = garbage_for bs g + garbage_in bs gs

-- how many lists of superseded versions are garbage where these numbers are active
abbrev pub garbage_of : List ℕ → ChainsValue → ℕ
garbage_of bs v = garbage_in bs v.groups

-- in how many groups the superseded versions stand
abbrev pub groups_of : ChainsValue → ℕ
groups_of v = length v.groups

-- what number n sees of each page is known: it is held, or nothing has been installed since
abbrev pub is_known : ℕ → ChainsValue → Bool
is_known n v = is_among v.held n || nat_le v.last n

-- nothing that can be asked for has changed
pub record IsSameMeaning (old new : ChainsValue) : Type 0 where
  pub maps : (n : ℕ) → map_seen new n ≡ map_seen old n
  pub newest : (k : Bytes) → newest_of new k ≡ newest_of old k
  pub kept : (k : Bytes) → versions_kept new k ≡ versions_kept old k
  pub last : new.last ≡ old.last

-- how many of the writes are of the key
abbrev pub writes_of : List KeyWrite → Bytes → ℕ
writes_of [] k = 0
writes_of (w ∷ ws) k = (if is_same_key k w.0 then 1 else 0) + writes_of ws k

abbrev pub is_written_by : List KeyWrite → Bytes → Bool
is_written_by ws k = list_any (λ w. is_same_key k w.0) ws

-- the writes came into the chains with number n, and nothing else has changed
pub record AreInstalled (old new : Chains) (n : ℕ) (ws : List KeyWrite) : Type 0 where
  pub maps : (m : ℕ) → visible m new ≡ (if nat_le n m then after_writes (visible m old) ws else visible m old)
  pub newest : (k : Bytes)
      → option_map (λ (c : ChainValue). c.newest.number) (find_chain k new)
      ≡ (if is_written_by ws k then Some n else option_map (λ (c : ChainValue). c.newest.number) (find_chain k old))
  pub kept : (k : Bytes) → kept_in (find_chain k new) ≡ kept_in (find_chain k old) + writes_of ws k

-- the writes came in with number n, and nothing else has changed
pub record IsInstalled (old new : ChainsValue) (n : ℕ) (ws : List KeyWrite) : Type 0 where
  pub maps : (m : ℕ) → map_seen new m ≡ (if nat_le n m then after_writes (map_seen old m) ws else map_seen old m)
  pub newest : (k : Bytes) → newest_of new k ≡ (if is_written_by ws k then Some n else newest_of old k)
  pub kept : (k : Bytes) → versions_kept new k ≡ versions_kept old k + writes_of ws k
  pub last : new.last ≡ n
  pub held : new.held ≡ old.held

-- each version of a chain is its newest or is the one that some of the numbers sees
abbrev pub IsSeen : List ℕ → ChainValue → Stamped → Type 0
IsSeen bs c v = (b : ℕ) × IsTrue (is_among bs b) × (version_at b c ≡ Some v)

abbrev pub IsTightChain : List ℕ → ChainValue → Type 0
IsTightChain bs c = AllByRecursion (IsSeen bs c) c.older

-- each kept version is the newest of its key or is seen from one of the numbers
abbrev pub IsTight : List ℕ → ChainsValue → Type 0
IsTight bs v = (k : Bytes) (c : ChainValue) → find_chain k v.chains ≡ Some c → IsTightChain bs c

-- how many of the key's versions are its newest or are seen from one of the numbers
abbrev pub needed_of : List ℕ → ChainsValue → Bytes → ℕ
needed_of bs v k = kept_in (option_map (reclaimed bs) (find_chain k v.chains))

-- how many garbage lists a step of a reclaim looks at; a list has what one commit superseded
abbrev pub lists_a_step : ℕ
lists_a_step = 2

-- What the numbers see, and what the greatest installed and those above it see, hasn't changed, nor which of a key's
-- versions are needed for that.
pub record IsSeenSame (old new : ChainsValue) (bs : List ℕ) : Type 0 where
  pub maps : (n : ℕ) → IsTrue (is_among bs n || nat_le old.last n) → map_seen new n ≡ map_seen old n
  pub newest : (k : Bytes) → newest_of new k ≡ newest_of old k
  pub last : new.last ≡ old.last
  pub needed : (k : Bytes) → needed_of bs new k ≡ needed_of bs old k

-- So it is, and of each key those that are needed are left, and no other: its newest, and those that some of the
-- numbers sees.
pub record IsReclaimed (old new : ChainsValue) (bs : List ℕ) : Type 0 where
  pub seen : IsSeenSame old new bs
  pub kept : (k : Bytes) → versions_kept new k ≡ needed_of bs old k
  pub tight : IsTight bs new

-- A step of that: so many lists are no longer garbage. Each key has all its versions still or those alone that are
-- needed, and where no list is garbage, all of it is done.
pub record IsReclaimedInPart (old new : ChainsValue) (bs : List ℕ) : Type 0 where
  pub seen : IsSeenSame old new bs
  pub garbage : garbage_of bs new ≡ garbage_of bs old - lists_a_step
  pub kept : (k : Bytes) → (versions_kept new k ≡ versions_kept old k) ⊎ (versions_kept new k ≡ needed_of bs old k)
  pub all : garbage_of bs new ≡ 0 → IsReclaimed old new bs
