-- The pin under which a superseded version is listed: no active number above it sees the version.
use Rattle.std.specs.List.{AllByRecursion}
use Rattle.std.specs.Prelude.{◌≡◌, ℕ, ◌≤◌, ◌<◌, ◌⊎◌, Bool, IsTrue, List, Option, Some, None, option_map}
use Rattle.versions.specs.Chains.{ChainValue, ChainsValue, find_chain, version_at}
use Rattle.versions.specs.Groups.{GroupValue, Listed}
use Rattle.versions.specs.Listings.{pin_for}

-- the number of the version that n sees of a chain
abbrev pub seen_number : ℕ → ChainValue → Option ℕ
seen_number n c = option_map (λ v. v.number) (version_at n c)

-- The chain goes on behind its version of number n, and no active number above w sees that version.
pub record IsUnderChain (active : ℕ → Bool) (last w n : ℕ) (c : ChainValue) : Type 0 where
  pub behind : n < c.newest.number
  pub installed : c.newest.number ≤ last
  pub sees : (b : ℕ) → IsTrue (active b) → b < c.newest.number → seen_number b c ≡ Some n → b ≤ w

-- No active number above the pin sees the listed version, neither as it is listed nor in the chain of its key.
pub record IsUnderPin (active : ℕ → Bool) (v : ChainsValue) (w : ℕ) (x : Listed) : Type 0 where
  pub before : w < x.next
  pub rises : x.number < x.next
  pub installed : x.next ≤ v.last
  pub between : (b : ℕ) → IsTrue (active b) → x.number ≤ b → b < x.next → b ≤ w
  pub chain : (c : ChainValue) → find_chain x.key v.chains ≡ Some c → IsUnderChain active v.last w x.number c

-- so it is of each of the versions
abbrev pub AreUnder : (ℕ → Bool) → ChainsValue → ℕ → List Listed → Type 0
AreUnder active v w xs = AllByRecursion (IsUnderPin active v w) xs

-- so it is of each version of the groups, and of their unclassified lists
abbrev pub AreUnderPins : (ℕ → Bool) → ChainsValue → List GroupValue → Type 0
AreUnderPins active v gs =
    AllByRecursion (λ g. AreUnder active v g.pin g.versions × AreUnder active v g.pin g.unclassified) gs

-- under whichever pin the old versions stand, the new ones do
abbrev pub StayUnder : List Listed → List Listed → Type 0
StayUnder old new = (active : ℕ → Bool) (v : ChainsValue) (w : ℕ) → AreUnder active v w old → AreUnder active v w new

-- so do those of a group
abbrev pub GroupStaysUnder : GroupValue → GroupValue → Type 0
GroupStaysUnder g h =
    (active : ℕ → Bool) (v : ChainsValue) (w : ℕ) → AreUnder active v w g.versions → AreUnder active v w g.unclassified
    → AreUnder active v w h.versions × AreUnder active v w h.unclassified

-- with more versions
abbrev pub GroupTakesUnder : GroupValue → List Listed → GroupValue → Type 0
GroupTakesUnder g more h =
    (active : ℕ → Bool) (v : ChainsValue) (w : ℕ) → AreUnder active v w g.versions → AreUnder active v w g.unclassified
    → AreUnder active v w more
    → AreUnder active v w h.versions × AreUnder active v w h.unclassified

-- with those of another group
abbrev pub GroupsJoinUnder : GroupValue → GroupValue → GroupValue → Type 0
GroupsJoinUnder g other h =
    (active : ℕ → Bool) (v : ChainsValue) (w : ℕ) → AreUnder active v w g.versions → AreUnder active v w g.unclassified
    → AreUnder active v w other.versions → AreUnder active v w other.unclassified
    → AreUnder active v w h.versions × AreUnder active v w h.unclassified

-- each group of these stands under its pin where each of those does
abbrev pub GroupsStayUnder : List GroupValue → List GroupValue → Type 0
GroupsStayUnder gs hs = (active : ℕ → Bool) (v : ChainsValue) → AreUnderPins active v gs → AreUnderPins active v hs

-- so it is where only these numbers are active, and each version that stands under its pin stands under the pin that
-- they give
abbrev pub MoveUnderPins : List ℕ → List GroupValue → List GroupValue → Type 0
MoveUnderPins bs gs hs =
    (more active : ℕ → Bool) (v u : ChainsValue)
    → ((w : ℕ) (x : Listed) → IsUnderPin more v w x → IsUnderPin active u (pin_for bs w) x)
    → AreUnderPins more v gs → AreUnderPins active u hs

-- the number of the version that n sees of a key's chain, where it has one
abbrev pub number_seen : ℕ → Option ChainValue → Option ℕ
number_seen n None = None
number_seen n (Some c) = seen_number n c

-- the numbers below n see of the key's chain what they saw, and where it has changed its newest has number n
pub record IsAddedTo (n : ℕ) (o p : Option ChainValue) : Type 0 where
  pub below : (b : ℕ) → b < n → number_seen b p ≡ number_seen b o
  pub newest : (p ≡ o) ⊎ (option_map (λ (c : ChainValue). c.newest.number) p ≡ Some n)
