-- What room there is for writes, and what installing them does to chains and to what is listed.
use Rattle.std.specs.List.{AllByRecursion}
use Rattle.std.specs.Prelude.{◌≡◌, ◌≤◌, ◌+◌, ◌-◌, ◌<◌, ℕ, List, ◌++◌, Option, Some, None, if◌then◌else◌}
use Rattle.std.specs.Vec.{vec_len, vec_capacity}
use Rattle.std.specs.declared.vec.Vec.{Vec}
use Rattle.model.specs.Map.{Bytes, KeyWrite}
use Rattle.sorted_pages.specs.Pages.{StayApart, KeepsHeld, KeepsHeldTo, Page, PagesValue, entries, is_together}
use Rattle.sorted_pages.specs.Pages.{room_at}
use Rattle.versions.specs.Chains.{ChainValue, Chains, ChainsValue, ChainHasRoom, CanAddVersion, HasPlaceAt}
use Rattle.versions.specs.Chains.{HavePlaces, IsKept, AreRoomier, find_chain}
use Rattle.versions.specs.Groups.{Listed}
use Rattle.versions.specs.Listings.{AreSeenFrom, IsFollowed, StayListed}
use Rattle.versions.specs.Meaning.{AreInstalled}
use Rattle.versions.specs.Pins.{IsAddedTo}

-- nothing has changed but the room in chains and pages, and there is no less of it
pub record HaveMoreRoom (old new : PagesValue ChainValue) : Type 0 where
  pub chains : AreRoomier (entries old.pages) (entries new.pages)
  pub rooms : (q : Bytes) → room_at q old.pages ≤ room_at q new.pages
  pub apart : StayApart old.pages new.pages
  pub held : KeepsHeld old new

-- so it is of all versions
pub record HasMoreRoom (old new : ChainsValue) : Type 0 where
  pub chains : AreRoomier old.chains new.chains
  pub rooms : (q : Bytes) → room_at q old.pages ≤ room_at q new.pages
  pub apart : StayApart old.pages new.pages
  pub held : new.held ≡ old.held
  pub listed_spare : new.listed_spare ≡ old.listed_spare
  pub groups_spare : new.groups_spare ≡ old.groups_spare
  pub groups : new.groups ≡ old.groups
  pub last : new.last ≡ old.last

-- how many places a new version at k takes of the room that q has: one, where it makes a chain in the page of q
abbrev pub places_taken : Option ChainValue → Bytes → Bytes → List (Page ChainValue) → ℕ
places_taken None k q ps = if is_together k q ps then 1 else 0
places_taken (Some c) k q ps = 0

-- the room that a new version at k takes, where this chain was found, and that keys stand in one page where they did;
-- it is of commit n, and the same numbers are held
pub record TakesRoom (n : ℕ) (found : Option ChainValue) (k : Bytes) (old new : PagesValue ChainValue) : Type 0 where
  pub rooms : (q : Bytes) → room_at q old.pages ≤ room_at q new.pages + places_taken found k q old.pages
  pub together : (i j : Bytes) → is_together i j new.pages ≡ is_together i j old.pages
  pub held : KeepsHeldTo n old new

-- a version of commit n can be added at k without memory: in its chain, or where that would stand
pub record CanAddAt (n : ℕ) (k : Bytes) (v : PagesValue ChainValue) : Type 0 where
  pub chain : CanAddVersion n (find_chain k (entries v.pages))
  pub place : HasPlaceAt 1 k v.pages (entries v.pages)
  pub late : v.last ≤ n

-- what always holds of chains holds up to below n, with which none has changed
pub record IsKeptBelow (n : ℕ) (v : PagesValue ChainValue) : Type 0 where
  pub last : ℕ
  pub below : last < n
  pub kept : IsKept (entries v.pages) last
  pub late : v.last ≤ n

-- each of the writes can be added without memory, in the chain of its key or where that would stand
pub record HaveRoom (pages : List (Page ChainValue)) (chains : Chains) (ws : List KeyWrite) : Type 0 where
  pub rooms : AllByRecursion (λ w. ChainHasRoom (find_chain w.0 chains)) ws
  pub places : HavePlaces pages chains ws

-- the list has these versions more, and room for at most one less
pub record ListsMore {Z : Type 0} (old new : Vec Listed Z) (more : List Listed) : Type 0 where
  pub items : new.items ≡ old.items ++ more
  pub room : vec_capacity old - vec_len old ≤ vec_capacity new - vec_len new + 1

-- the writes came into the chains with number n, behind what the numbers below n see
pub record AddsWrites (old new : Chains) (n : ℕ) (ws : List KeyWrite) : Type 0 where
  pub kept : IsKept new n
  pub installed : AreInstalled old new n ws
  pub added : (k : Bytes) → IsAddedTo n (find_chain k old) (find_chain k new)

-- these are the versions that those of number n superseded: n - 1 sees each of them
pub record ListsFollowed (old new : Chains) (n : ℕ) (vs : List Listed) : Type 0 where
  pub listed : StayListed old new vs
  pub seen : AreSeenFrom (n - 1) vs
  pub followed : AllByRecursion (IsFollowed n new) vs
