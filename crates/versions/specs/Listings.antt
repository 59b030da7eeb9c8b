-- Which older versions are listed, so that a reclaim finds those that no number sees any more.
use Rattle.std.specs.List.{AllByRecursion, list_all, list_any, flat_map}
use Rattle.std.specs.Prelude.{◌≡◌, ℕ, ◌+◌, ◌-◌, ◌<◌, ◌≤◌, ◌^◌, length, Bool, false, not, ◌||◌, ◌&&◌, ◌==◌, ◌⊎◌}
use Rattle.std.specs.Prelude.{nat_le, nat_lt, max, List, [], ◌∷◌, map, fold, Option, Some, None, option_map, IsTrue}
use Rattle.std.specs.Prelude.{⊤, if◌then◌else◌}
use Rattle.std.specs.Vec.{vec_len, vec_capacity}
use Rattle.std.specs.declared.vec.Vec.{Vec}
use Rattle.model.specs.Map.{Bytes, is_same_key}
use Rattle.versions.specs.Chains.{Stamped, ChainValue, Chains, find_chain, number_of_first, is_between, reclaimed}
use Rattle.versions.specs.Groups.{GroupValue, Listed}
use Rattle.versions.specs.Meaning.{is_among}

-- the versions of lists, one list after the other
abbrev pub versions_in : {Z : Type 0} → List (Vec Listed Z) → List Listed
versions_in = flat_map (λ v. v.items)

-- how many more versions fit into the first of the lists without memory
abbrev pub spare_in : {Z : Type 0} → List (Vec Listed Z) → ℕ
spare_in [] = 0
spare_in (v ∷ vs) = vec_capacity v - vec_len v

-- there are no more lists than versions in them
abbrev pub ListsAreFilled : {Z : Type 0} → List (Vec Listed Z) → Type 0
ListsAreFilled vs = length vs ≤ length (versions_in vs)

-- the number sees the version
abbrev pub is_seen_from : ℕ → Listed → Bool
is_seen_from n v = nat_le v.number n && nat_lt n v.next

abbrev pub is_seen_by : Option ℕ → Listed → Bool
is_seen_by None v = false
is_seen_by (Some n) v = is_seen_from n v

abbrev pub AreSeenFrom : ℕ → List Listed → Type 0
AreSeenFrom n vs = AllByRecursion (λ v. IsTrue (is_seen_from n v)) vs

-- ---- each older version is listed

-- the key's version of this number, which is listed as seen below `high`
abbrev pub is_of : Bytes → ℕ → ℕ → Listed → Bool
is_of k n high v = is_same_key k v.key && (v.number == n && nat_le v.next high)

abbrev pub is_in : List Listed → Bytes → ℕ → ℕ → Bool
is_in vs k n high = list_any (is_of k n high) vs

abbrev pub is_listed : List GroupValue → Bytes → ℕ → ℕ → Bool
is_listed gs k n high = list_any (λ g. is_in g.versions k n high) gs

abbrev pub AreListed : List GroupValue → Bytes → ℕ → List Stamped → Type 0
AreListed gs k next [] = ⊤
AreListed gs k next (v ∷ vs) = IsTrue (is_listed gs k v.number (number_of_first vs next)) × AreListed gs k next vs

abbrev pub IsListedChain : List GroupValue → Bytes → Option ChainValue → Type 0
IsListedChain gs k None = ⊤
IsListedChain gs k (Some c) = AreListed gs k c.newest.number c.older

-- each version of a key but its newest is in some group
abbrev pub IsListed : Chains → List GroupValue → Type 0
IsListed chains gs = (k : Bytes) → IsListedChain gs k (find_chain k chains)

-- each of the groups' versions is in some of the others
abbrev pub AreFound : List GroupValue → List GroupValue → Type 0
AreFound gs hs = (k : Bytes) (n high : ℕ) → IsTrue (is_listed gs k n high) → IsTrue (is_listed hs k n high)

-- two groups have the same pin, and their lists can be counted
abbrev pub CanJoin : GroupValue → GroupValue → Type 0
CanJoin g h = (g.pin ≡ h.pin) × (g.lists + h.lists < 2 ^ 63)

-- how many lists the groups have
abbrev pub lists_in : List GroupValue → ℕ
lists_in [] = 0
lists_in (g ∷ gs) = g.lists + lists_in gs

-- the groups have a list for some of the commits up to the last, and at most one list more is ready
pub record HasFewLists {Z : Type 0} (gs : List GroupValue) (next : List (Vec Listed Z)) (last : ℕ) : Type 0 where
  pub lists : lists_in gs ≤ last
  pub ready : length next ≤ 1
  pub fits : last < 2 ^ 63

-- ---- under which pin a group stands

-- the greatest of the numbers below this one, and 0 where none is
abbrev pub greatest_below : List ℕ → ℕ → ℕ
greatest_below bs high = fold (λ greatest b. if nat_lt b high then max greatest b else greatest) 0 bs

-- the pin where it is one of the numbers, and else the greatest of them below it
abbrev pub pin_for : List ℕ → ℕ → ℕ
pin_for bs w = if is_among bs w then w else greatest_below bs w

abbrev pub pins : List GroupValue → List ℕ
pins = map (λ g. g.pin)

-- no two of the numbers are the same
abbrev pub AreApart : List ℕ → Type 0
AreApart [] = ⊤
AreApart (n ∷ ns) = (is_among ns n ≡ false) × AreApart ns

-- each of the numbers is among the others
abbrev pub AreAmong : List ℕ → List ℕ → Type 0
AreAmong bs ns = AllByRecursion (λ n. IsTrue (is_among bs n)) ns

-- ---- what is to be looked at

-- the pin is one of the numbers, or no list counts as seen from it
abbrev pub IsRepinned : List ℕ → GroupValue → Type 0
IsRepinned bs g = IsTrue (is_among bs g.pin) ⊎ (g.seen ≡ 0)

-- the pin is one of the numbers, and sees each version of the unclassified lists
abbrev pub sees_unclassified : List ℕ → GroupValue → Bool
sees_unclassified bs g = is_among bs g.pin && list_all (is_seen_from g.pin) g.unclassified

-- there are no more unclassified lists than versions in them; and there is no such version, or the pin is none of the
-- numbers or doesn't see all of them
abbrev pub IsTrulyUnclassified : List ℕ → GroupValue → Type 0
IsTrulyUnclassified bs g = (g.lists ≤ g.seen + g.garbage + length g.unclassified)
    × ((g.unclassified ≡ []) ⊎ (sees_unclassified bs g ≡ false))

-- each of the versions is among the others
abbrev pub AreIn : List Listed → List Listed → Type 0
AreIn us vs = (k : Bytes) (n high : ℕ) → IsTrue (is_in us k n high) → IsTrue (is_in vs k n high)

-- the versions are those of both
abbrev pub AreOfBoth : List Listed → List Listed → List Listed → Type 0
AreOfBoth us ws vs = (k : Bytes) (n high : ℕ) → is_in vs k n high ≡ (is_in us k n high || is_in ws k n high)

-- ---- a version more

-- a group of these versions, whatever its pin
abbrev pub unpinned : List Listed → GroupValue
unpinned vs = record { pin = 0; versions = vs; unclassified = []; seen = 0; garbage = 0; lists = 0 }

-- where the old chains were listed, the new ones are, with these versions more
abbrev pub StayListed : Chains → Chains → List Listed → Type 0
StayListed old new more = (groups : List GroupValue) → IsListed old groups → IsListed new (unpinned more ∷ groups)

-- what is listed of a key when a version of number n supersedes its newest
abbrev pub followed : Option ChainValue → Bytes → ℕ → List Listed
followed None k n = []
followed (Some c) k n = record { key = k; number = c.newest.number; next = n } ∷ []

-- the listed version was superseded by number n, the newest of its key
pub record IsFollowed (n : ℕ) (chains : Chains) (v : Listed) : Type 0 where
  pub number : v.number < n
  pub next : v.next ≡ n
  pub newest : (c : ChainValue) → find_chain v.key chains ≡ Some c → c.newest.number ≡ n

-- ---- what a reclaim leaves

-- the chain has an older version of this number
abbrev pub has_version : ℕ → Option ChainValue → Bool
has_version n None = false
has_version n (Some c) = list_any (λ v. v.number == n) c.older

-- each of the versions is seen from some of the numbers
abbrev pub AreNeeded : List ℕ → ℕ → List Stamped → Type 0
AreNeeded bs next [] = ⊤
AreNeeded bs next (v ∷ vs) = IsTrue (is_between bs v.number (number_of_first vs next)) × AreNeeded bs next vs

abbrev pub IsNeededChain : List ℕ → Option ChainValue → Type 0
IsNeededChain bs None = ⊤
IsNeededChain bs (Some c) = AreNeeded bs c.newest.number c.older

-- some of the numbers sees the listed version, or its chain has it and holds none that they don't see
abbrev pub IsCollected : List ℕ → Chains → Listed → Type 0
IsCollected bs chains v = IsTrue (is_between bs v.number v.next)
    ⊎ (IsTrue (has_version v.number (find_chain v.key chains)) × IsNeededChain bs (find_chain v.key chains))

-- each chain is as it was, or was reclaimed
abbrev pub IsPartReclaimed : List ℕ → Chains → Chains → Type 0
IsPartReclaimed bs old new = (k : Bytes)
    → (find_chain k new ≡ find_chain k old) ⊎ (find_chain k new ≡ option_map (reclaimed bs) (find_chain k old))

-- each chain was reclaimed
abbrev pub IsAllReclaimed : List ℕ → Chains → Chains → Type 0
IsAllReclaimed bs old new = (k : Bytes) → find_chain k new ≡ option_map (reclaimed bs) (find_chain k old)

-- where the old versions and some more are collected, the new ones are
abbrev pub StayCollected : List ℕ → List Listed → List Listed → List Listed → Type 0
StayCollected bs old more new =
    (chains : Chains) → AllByRecursion (IsCollected bs chains) old → AllByRecursion (IsCollected bs chains) more
    → AllByRecursion (IsCollected bs chains) new

-- a version that is no longer listed is no longer in its chain
abbrev pub AreKept : List Listed → List Listed → Chains → Type 0
AreKept old new chains = (k : Bytes) (n high : ℕ) → IsTrue (is_in old k n high)
    → IsTrue (is_in new k n high || not (has_version n (find_chain k chains)))

-- each version of the unclassified lists is collected
abbrev pub AreUnclassifiedCollected : List ℕ → Chains → List GroupValue → Type 0
AreUnclassifiedCollected bs chains gs = AllByRecursion (λ g. AllByRecursion (IsCollected bs chains) g.unclassified) gs

-- no list is unclassified
abbrev pub IsClassified : GroupValue → Type 0
IsClassified g = (g.unclassified ≡ []) × (g.lists ≤ g.seen + g.garbage)
