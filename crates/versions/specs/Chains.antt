-- Chains of versions by key, as contracts see them.
use Rattle.std.specs.Cmp.Lexicographic.{slice_cmp}
use Rattle.std.specs.FinMap.Entries.{find, is_sorted, put}
use Rattle.std.specs.List.{AllByRecursion, list_any, prefix_len}
use Rattle.std.specs.Ordering.{nat_cmp}
use Rattle.std.specs.Prelude.{◌≡◌, ℕ, T, ◌+◌, ◌-◌, ◌<◌, ◌≤◌, Bool, List, [], ◌∷◌, ◌++◌, length, Option, Some, None}
use Rattle.std.specs.Prelude.{option_map, nat_le, nat_lt, ◌&&◌, ◌==◌, is_none, is_some, if◌then◌else◌}
use Rattle.std.specs.Prelude.{⊤}
use Rattle.model.specs.Map.{Bytes, KeyMap, KeyWrite, is_same_key}
use Rattle.sorted_pages.specs.Pages.{Page, is_together, room_at}
use Rattle.versions.specs.Groups.{GroupValue}

-- the commit number of a version and its value, `None` for a deletion
pub record Stamped : Type 0 where
  pub number : ℕ
  pub value : Option Bytes

-- the newest version of a key, those before it by rising number, and how many more fit without memory
pub record ChainValue : Type 0 where
  pub older : List Stamped
  pub newest : Stamped
  pub room : ℕ

-- chains by key
abbrev pub Chains : Type 0
Chains = List (Bytes × ChainValue)

-- the chains by rising key, the pages that they stand in, the numbers of which it is held what they see of each page,
-- the groups of the superseded versions, and the greatest number that was installed, or 0
pub record ChainsValue : Type 0 where
  pub chains : Chains
  pub pages : List (Page ChainValue)
  pub held : List ℕ
  -- how many more superseded versions, and groups of them, are listed without memory
  pub listed_spare : ℕ
  pub groups_spare : ℕ
  pub groups : List GroupValue
  pub last : ℕ

-- the last version with a number of at most n, and d where there is none
abbrev pub last_at : ℕ → Option Stamped → List Stamped → Option Stamped
last_at n d [] = d
last_at n d (v ∷ vs) = last_at n (if nat_le v.number n then Some v else d) vs

-- the newest version with a number of at most n
abbrev pub version_at : ℕ → ChainValue → Option Stamped
version_at n c = if nat_le c.newest.number n then Some c.newest else last_at n None c.older

abbrev pub value_of : Option Stamped → Option Bytes
value_of None = None
value_of (Some v) = v.value

-- what n sees of a chain
abbrev pub seen : ℕ → ChainValue → Option Bytes
seen n c = value_of (version_at n c)

abbrev pub seen_in : ℕ → Option ChainValue → Option Bytes
seen_in n None = None
seen_in n (Some c) = seen n c

abbrev pub find_chain : Bytes → Chains → Option ChainValue
find_chain k es = find (slice_cmp nat_cmp) k es

abbrev pub with_pair : Bytes → Option Bytes → KeyMap → KeyMap
with_pair k None ps = ps
with_pair k (Some v) ps = (k, v) ∷ ps

-- n sees nothing of a chain
abbrev pub hides : ℕ → ChainValue → Bool
hides n c = is_none (seen n c)

-- from this number on, up to the newest's, none sees anything of a chain
abbrev pub HidesFrom : ℕ → ChainValue → Type 0
HidesFrom from c = (n : ℕ) → from ≤ n → n < c.newest.number → seen n c ≡ None

-- the newest version is a value
abbrev pub shows : ChainValue → Bool
shows c = is_some c.newest.value

-- the pairs that n sees
abbrev pub visible : ℕ → Chains → KeyMap
visible n [] = []
visible n (e ∷ es) = with_pair e.0 (seen n e.1) (visible n es)

-- ---- a version more

abbrev pub stamped : ℕ → Option Bytes → Stamped
stamped n v = record { number = n; value = v }

abbrev pub fresh_chain : Stamped → ℕ → ChainValue
fresh_chain v room = record { older = []; newest = v; room = room }

abbrev pub longer_chain : ChainValue → Stamped → ℕ → ChainValue
longer_chain c v room = record { older = c.older ++ c.newest ∷ []; newest = v; room = room }

-- the chain with a version more
abbrev pub added : Option ChainValue → Stamped → ℕ → ChainValue
added None v room = fresh_chain v room
added (Some c) v room = longer_chain c v room

-- a version with number n can be added to the chain without memory
abbrev pub CanAddVersion : ℕ → Option ChainValue → Type 0
CanAddVersion n None = ⊤
CanAddVersion n (Some c) = (c.newest.number < n) × (0 < c.room)

abbrev pub ChainHasRoom : Option ChainValue → Type 0
ChainHasRoom None = ⊤
ChainHasRoom (Some c) = 0 < c.room

-- so many new chains fit without memory where the key would stand, if it has none
abbrev pub HasPlace : ℕ → ℕ → Option ChainValue → Type 0
HasPlace n room None = n ≤ room
HasPlace n room (Some c) = ⊤

-- so it is in these pages, whose entries are the chains
abbrev pub HasPlaceAt : ℕ → Bytes → List (Page ChainValue) → Chains → Type 0
HasPlaceAt n k ps chains = HasPlace n (room_at k ps) (find_chain k chains)

-- where the key's chain has room, or so many new chains fit, that holds
abbrev pub WhereRoom : ℕ → Bytes → List (Page ChainValue) → Chains → Type 0 → Type 0
WhereRoom n k ps chains P = ChainHasRoom (find_chain k chains) → HasPlaceAt n k ps chains → P

-- the key's chain has the version more, or the key has a chain of it alone; the chain may have any room
abbrev pub IsAddedAt : Bytes → Stamped → Chains → Chains → Type 0
IsAddedAt k v old new = (room : ℕ) × (new ≡ put (slice_cmp nat_cmp) k (added (find_chain k old) v room) old)

-- how many of the first of the writes stand or would stand in the page of k
abbrev pub count_together : Bytes → List (Page ChainValue) → List KeyWrite → ℕ
count_together k ps ws = prefix_len (λ w. is_together k w.0 ps) ws

-- where the key of a write has no chain, its page has room for it and for those right behind it that come there
abbrev pub HavePlaces : List (Page ChainValue) → Chains → List KeyWrite → Type 0
HavePlaces ps chains [] = ⊤
HavePlaces ps chains (w ∷ ws) =
    HasPlaceAt (count_together w.0 ps (w ∷ ws)) w.0 ps chains × HavePlaces ps chains ws

-- the writes can be installed without memory
pub record IsPrepared (v : ChainsValue) (ws : List KeyWrite) : Type 0 where
  pub chains : AllByRecursion (λ w. ChainHasRoom (find_chain w.0 v.chains)) ws
  pub places : HavePlaces v.pages v.chains ws
  pub listed : length ws ≤ v.listed_spare
  pub groups : 1 ≤ v.groups_spare

-- ---- what a reclaim leaves

abbrev pub number_of_first : List Stamped → ℕ → ℕ
number_of_first [] n = n
number_of_first (v ∷ vs) n = v.number

-- some of the numbers is at least low and below high
abbrev pub is_between : List ℕ → ℕ → ℕ → Bool
is_between bs low high = list_any (λ b. nat_le low b && nat_lt b high) bs

-- the versions that some of the numbers sees, where the version after the last one has number next
abbrev pub seen_by : List ℕ → ℕ → List Stamped → List Stamped
seen_by bs next [] = []
seen_by bs next (v ∷ vs) =
    if is_between bs v.number (number_of_first vs next) then v ∷ seen_by bs next vs else seen_by bs next vs

-- without the older versions that none of the numbers sees
abbrev pub thinned : List ℕ → ChainValue → ChainValue
thinned bs c = record {
  older = seen_by bs c.newest.number c.older;
  newest = c.newest;
  room = c.room + (length c.older - length (seen_by bs c.newest.number c.older));
}

-- the room for more is freed with the last older version
abbrev pub room_left : ChainValue → List Stamped → ℕ
room_left c left = if length left == length c.older then c.room else (if length left == 0 then 0 else c.room
    + (length c.older - length left))

abbrev pub reclaimed : List ℕ → ChainValue → ChainValue
reclaimed bs c = record {
  older = seen_by bs c.newest.number c.older;
  newest = c.newest;
  room = room_left c (seen_by bs c.newest.number c.older);
}

-- ---- what always holds

-- the numbers rise strictly, up to below n
abbrev pub IsRisingTo : List Stamped → ℕ → Type 0
IsRisingTo [] n = ⊤
IsRisingTo (v ∷ vs) n = AllByRecursion (λ u. v.number < u.number) vs × (v.number < n) × IsRisingTo vs n

abbrev pub IsRisingChain : ℕ → ChainValue → Type 0
IsRisingChain last c = IsRisingTo c.older c.newest.number × (c.newest.number ≤ last)

-- the chains stand by strictly rising key, and the numbers in each rise
pub record IsKept (chains : Chains) (last : ℕ) : Type 0 where
  pub sorted : T (is_sorted (slice_cmp nat_cmp) chains)
  pub rising : AllByRecursion (λ e. IsRisingChain last e.1) chains

-- the key's chain was reclaimed, and no other has changed
pub record IsReclaimedAt (bs : List ℕ) (k : Bytes) (old new : Chains) : Type 0 where
  pub found : (q : Bytes) → find_chain q new
      ≡ (if is_same_key q k then option_map (reclaimed bs) (find_chain k old) else find_chain q old)
  pub kept : (last : ℕ) → IsKept old last → IsKept new last

-- ---- chains that are made, and chains with more room

-- the chains of a map's pairs, each with one version of number 0
abbrev pub base_chains : KeyMap → Chains
base_chains [] = []
base_chains (p ∷ ps) = (p.0, fresh_chain (stamped 0 (Some p.1)) 0) ∷ base_chains ps

-- the chain with no less room
pub record IsRoomierChain (c d : ChainValue) : Type 0 where
  pub older : d.older ≡ c.older
  pub newest : d.newest ≡ c.newest
  pub room : c.room ≤ d.room

-- the same chains, with no less room
abbrev pub AreRoomier : Chains → Chains → Type 0
AreRoomier [] [] = ⊤
AreRoomier (e ∷ es) (f ∷ fs) = (f.0 ≡ e.0) × IsRoomierChain e.1 f.1 × AreRoomier es fs
AreRoomier _ _ = ⊥
