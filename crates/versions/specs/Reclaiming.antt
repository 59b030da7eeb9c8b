-- What a step of a reclaim does to chains, to the versions that are listed of them, and to the groups.
use Rattle.std.specs.List.{AllByRecursion}
use Rattle.std.specs.Prelude.{◌≡◌, ◌≤◌, ◌<◌, ◌+◌, ◌-◌, ℕ, List, ◌∷◌, take, get_or, length, false}
use Rattle.sorted_pages.specs.Pages.{KeepsHeld, PagesValue, entries}
use Rattle.sorted_pages.specs.Summaries.{HoldsAmong}
use Rattle.versions.specs.Chains.{ChainValue, Chains, IsKept}
use Rattle.versions.specs.Groups.{GroupValue, Listed}
use Rattle.versions.specs.Listings.{AreAmong, AreFound, AreIn, AreKept, AreUnclassifiedCollected, AreOfBoth}
use Rattle.versions.specs.Listings.{AreSeenFrom, IsAllReclaimed, IsListed, IsPartReclaimed, IsCollected}
use Rattle.versions.specs.Listings.{IsTrulyUnclassified, StayCollected, lists_in, pins}
use Rattle.versions.specs.Meaning.{garbage_for, garbage_in, is_among, lists_a_step}
use Rattle.versions.specs.Pins.{GroupStaysUnder, GroupTakesUnder, GroupsJoinUnder, GroupsStayUnder}
use Rattle.versions.specs.Pins.{MoveUnderPins, StayUnder}

-- each chain is as it was, or was reclaimed, and what always holds of chains holds still
pub record ReclaimsChains (bs : List ℕ) (old new : Chains) : Type 0 where
  pub part : IsPartReclaimed bs old new
  pub kept : (last : ℕ) → IsKept old last → IsKept new last

-- so it is of the chains in pages, and the same numbers are held
pub record ReclaimsPages (bs : List ℕ) (old new : PagesValue ChainValue) : Type 0 where
  pub chains : ReclaimsChains bs (entries old.pages) (entries new.pages)
  pub held : KeepsHeld old new

-- what always holds of chains holds, and of the numbers before the last change only these are held
pub record IsReclaimable (bs : List ℕ) (v : PagesValue ChainValue) : Type 0 where
  pub last : ℕ
  pub kept : IsKept (entries v.pages) last
  pub among : HoldsAmong bs v

-- ---- listed versions

-- Each version that is left is collected, and one that is no longer listed is no longer in its chain. A number that saw
-- all of them sees all that are left, and they stand under each pin that all of them stood under.
pub record DropsUnseen (bs : List ℕ) (chains : Chains) (old new : List Listed) : Type 0 where
  pub collected : AllByRecursion (IsCollected bs chains) new
  pub left : AreKept old new chains
  pub seen : (n : ℕ) → AreSeenFrom n old → AreSeenFrom n new
  pub each : StayUnder old new

-- ---- one group

-- The group stands under pin w, with no list more. A version that it no longer lists is no longer in its chain, and
-- those that are left stand under each pin that all of them stood under.
pub record DropsFromGroup (chains : Chains) (w : ℕ) (g h : GroupValue) : Type 0 where
  pub pin : h.pin ≡ w
  pub lists : h.lists ≤ g.lists
  pub left : AreKept g.versions h.versions chains
  pub each : GroupStaysUnder g h

-- where no list of the group is garbage, each of its versions is collected; those of its unclassified lists are in any
-- case, and these are truly unclassified
pub record IsLookedAfter (bs : List ℕ) (chains : Chains) (g : GroupValue) : Type 0 where
  pub collected : garbage_for bs g ≡ 0 → AllByRecursion (IsCollected bs chains) g.versions
  pub unclassified : AllByRecursion (IsCollected bs chains) g.unclassified
  pub truly : IsTrulyUnclassified bs g

-- the group lists its versions and these, and what was collected of both, or stood under a pin with them, does still
pub record TakesVersions (bs : List ℕ) (g : GroupValue) (more : List Listed) (h : GroupValue) : Type 0 where
  pub found : AreIn g.versions h.versions
  pub kept : AreIn more h.versions
  pub collected : StayCollected bs g.versions more h.versions
  pub unclassified : StayCollected bs g.unclassified more h.unclassified
  pub each : GroupTakesUnder g more h

-- the group has so many lists more, none of them garbage, under the same pin
pub record TakesLists (g : GroupValue) (count : ℕ) (h : GroupValue) : Type 0 where
  pub pin : h.pin ≡ g.pin
  pub garbage : h.garbage ≡ g.garbage
  pub lists : h.lists ≡ g.lists + count

-- the group lists the versions of both, has as many garbage lists as both, and what held of both holds of it
pub record TakesGroup (g other h : GroupValue) : Type 0 where
  pub found : AreOfBoth g.versions other.versions h.versions
  pub garbage : (bs : List ℕ) → garbage_for bs h ≡ garbage_for bs g + garbage_for bs other
  pub truly : (bs : List ℕ) → IsTrulyUnclassified bs g → IsTrulyUnclassified bs other → IsTrulyUnclassified bs h
  pub unclassified : (bs : List ℕ) → StayCollected bs g.unclassified other.unclassified h.unclassified
  pub each : GroupsJoinUnder g other h

-- ---- all groups

-- So many lists are no longer garbage, each chain is as it was or was reclaimed, and where none is garbage, each was.
pub record ReclaimsStep (bs : List ℕ) (old new : PagesValue ChainValue) (gs hs : List GroupValue) : Type 0 where
  pub garbage : garbage_in bs hs ≡ garbage_in bs gs - lists_a_step
  pub pages : ReclaimsPages bs old new
  pub all : garbage_in bs hs ≡ 0 → IsAllReclaimed bs (entries old.pages) (entries new.pages)

-- The groups after a step: each older version of the chains is listed, in no more lists than before, and its pin is one
-- of the numbers or 0; what is unclassified is truly unclassified and collected.
pub record AreLookedAt (bs : List ℕ) (chains : Chains) (gs hs : List GroupValue) : Type 0 where
  pub listed : IsListed chains hs
  pub lists : lists_in hs ≤ lists_in gs
  pub active : AreAmong (0 ∷ bs) (pins hs)
  pub truly : AllByRecursion (IsTrulyUnclassified bs) hs
  pub unclassified : AreUnclassifiedCollected bs chains hs
  pub each : MoveUnderPins bs gs hs

-- No list is garbage where these numbers are active, and each chain has what is needed alone. Each pin is one of the
-- numbers or 0, and that of no other group; what is unclassified is truly unclassified and collected.
pub record AreCollected (bs : List ℕ) (chains : Chains) (gs : List GroupValue) : Type 0 where
  pub none : garbage_in bs gs ≡ 0
  pub reclaimed : IsAllReclaimed bs chains chains
  pub few : length gs ≤ length bs + 1
  pub active : AreAmong (0 ∷ bs) (pins gs)
  pub truly : AllByRecursion (IsTrulyUnclassified bs) gs
  pub unclassified : AreUnclassifiedCollected bs chains gs

-- the groups list what they listed, under pins that they had: as many lists are garbage, and what held of each group
-- holds of each still
pub record KeepsListed (gs hs : List GroupValue) : Type 0 where
  pub found : AreFound gs hs
  pub garbage : (bs : List ℕ) → garbage_in bs hs ≡ garbage_in bs gs
  pub active : (bs : List ℕ) → AreAmong bs (pins gs) → AreAmong bs (pins hs)
  pub truly : (bs : List ℕ) → AllByRecursion (IsTrulyUnclassified bs) gs → AllByRecursion (IsTrulyUnclassified bs) hs
  pub unclassified : (bs : List ℕ) (chains : Chains) → AreUnclassifiedCollected bs chains gs
      → AreUnclassifiedCollected bs chains hs
  pub each : GroupsStayUnder gs hs

-- a group stands in place i, and no group before it has a pin above this
pub record StandsBehind (greatest i : ℕ) (gs : List GroupValue) : Type 0 where
  pub within : i < length gs
  pub pins_before : AllByRecursion (λ n. n ≤ greatest) (take i (pins gs))

-- the groups are the same, and none before place i has the pin of the group there
pub record StaysApart (gs : List GroupValue) (i : ℕ) (hs : List GroupValue) : Type 0 where
  pub same : hs ≡ gs
  pub other : is_among (take i (pins gs)) (get_or (pins gs) i 0) ≡ false
