-- Under which pins the superseded versions are listed, from call to call.
use Rattle.std.proofs.Common.{[], ◌≡◌, ℕ, ◌-◌, ◌<◌, ◌≤◌, Bool, true, false, ◌&&◌, List, ◌∷◌, ◌++◌, Option, Some, None}
use Rattle.std.proofs.Common.{refl, sym, ap, subst, ◌∙◌, arith, inl, inr, length}
use Rattle.std.proofs.lemmas.Bool.{and_parts, both_ways, or_cases}
use Rattle.std.proofs.lemmas.Bool.Decides.{nat_tests}
use Rattle.std.specs.Cmp.Lexicographic.{slice_cmp}
use Rattle.std.specs.FinMap.Entries.{put}
use Rattle.std.specs.List.{AllByRecursion, list_all, list_any}
use Rattle.std.specs.Ordering.{nat_cmp}
use Rattle.std.specs.Prelude.{option_map, nat_le, nat_lt, max, fold, ◌==◌, ◌⊎◌, IsTrue, if◌then◌else◌}
use Rattle.model.proofs.Elements.{all-append, all-each}
use Rattle.model.proofs.Lookups.{same_key}
use Rattle.model.specs.Map.{Bytes}
use Rattle.versions.proofs.ChainLaws.{above_first, last_at-push, some_between, stays, version_at-reclaimed}
use Rattle.versions.proofs.Stores.{RoomierFound, all-find, find-put_itself, find-roomier, number_added}
use Rattle.versions.proofs.Visibles.{find_chain-put}
use Rattle.versions.specs.Chains.{Stamped, ChainValue, Chains, ChainsValue, added, find_chain, last_at, reclaimed}
use Rattle.versions.specs.Chains.{stamped, IsKept, CanAddVersion, IsRisingChain, IsRisingTo, AreRoomier}
use Rattle.versions.specs.Chains.{IsRoomierChain}
use Rattle.versions.specs.Groups.{GroupValue, Listed}
use Rattle.versions.specs.Listings.{followed, has_version, is_seen_from, pin_for, pins, AreAmong}
use Rattle.versions.specs.Listings.{AreUnclassifiedCollected, AreNeeded, IsFollowed, IsNeededChain, IsPartReclaimed}
use Rattle.versions.specs.Listings.{IsCollected, IsTrulyUnclassified, IsClassified}
use Rattle.versions.specs.Meaning.{is_among}
use Rattle.versions.specs.Pins.{seen_number, number_seen, AreUnderPins, IsAddedTo, IsUnderChain, IsUnderPin}

-- the group's versions are under its pin
abbrev pub IsUnder : (ℕ → Bool) → ChainsValue → GroupValue → Type 0
IsUnder active v g = AllByRecursion (IsUnderPin active v g.pin) g.versions × AllByRecursion (IsUnderPin active v g.pin) g.unclassified

-- ---- each of the groups' versions

pub groups-under : (more active : ℕ → Bool) (v u : ChainsValue) (gs : List GroupValue)
    → ((w : ℕ) (x : Listed) → IsUnderPin more v w x → IsUnderPin active u w x) → AreUnderPins more v gs → AreUnderPins active u gs
groups-under more active v u gs f h =
    let each = λ (w : ℕ) (xs : List Listed). all-each (IsUnderPin more v w) (IsUnderPin active u w) xs (f w) in
    all-each (IsUnder more v) (IsUnder active u) gs (λ g q. (each g.pin g.versions q.0, each g.pin g.unclassified q.1)) h

-- ---- other numbers are active

-- ---- more room

-- the active numbers see of the chain what they saw
under-chain : (more active : ℕ → Bool) (last last' w w' n : ℕ) (c d : ChainValue) → d.newest ≡ c.newest → last ≤ last'
    → ((b : ℕ) → IsTrue (active b) → IsTrue (more b) × (seen_number b d ≡ seen_number b c) × (b ≤ w → b ≤ w'))
    → IsUnderChain more last w n c → IsUnderChain active last' w' n d
under-chain more active last last' w w' n c d same le each u = grind (arith, u.behind, u.installed, u.sees, each)

number_roomier : (b : ℕ) (c d : ChainValue) → IsRoomierChain c d → seen_number b d ≡ seen_number b c
number_roomier b c d r = λ i. option_map (λ (v : Stamped). v.number) (if nat_le (r.newest i).number b then Some (r.newest i) else last_at b None (r.older i))

roomier_before : (o p : Option ChainValue) (d : ChainValue) → RoomierFound o p → p ≡ Some d → (c : ChainValue) × (o ≡ Some c) × IsRoomierChain c d
roomier_before o p d r e = grind arith

pub under-roomier : (active : ℕ → Bool) (v u : ChainsValue) → AreRoomier v.chains u.chains → u.last ≡ v.last → (w : ℕ) (x : Listed) → IsUnderPin active v w x
    → IsUnderPin active u w x
under-roomier active v u more last w x h =
    let installed = subst (λ n. x.next ≤ n) (sym last) h.installed in
    assumption (
      installed,
      λ (d : ChainValue) (found : find_chain x.key u.chains ≡ Some d). (
          let r = roomier_before (find_chain x.key v.chains) (find_chain x.key u.chains) d (find-roomier x.key v.chains u.chains more) found in
          under-chain active active v.last u.last w w x.number r.0 d r.2.newest (omega (arith, last)) (λ b t. (t, number_roomier b r.0 d r.2, λ le. le))
          (h.chain r.0 r.1)),
    )

roomier_behind : (o p : Option ChainValue) (c : ChainValue) → RoomierFound o p → o ≡ Some c → (d : ChainValue) × (p ≡ Some d) × IsRoomierChain c d
roomier_behind o p c r e = grind arith

-- and so it was before there was more room
pub under-roomy : (active : ℕ → Bool) (v u : ChainsValue) → AreRoomier v.chains u.chains → u.last ≡ v.last → (w : ℕ) (x : Listed) → IsUnderPin active u w x
    → IsUnderPin active v w x
under-roomy active v u more last w x h =
    let installed = subst (λ n. x.next ≤ n) last h.installed in
    assumption (
      installed,
      λ (c : ChainValue) (found : find_chain x.key v.chains ≡ Some c). (
          let r = roomier_behind (find_chain x.key v.chains) (find_chain x.key u.chains) c (find-roomier x.key v.chains u.chains more) found in
          under-chain active active u.last v.last w w x.number r.0 c (sym r.2.newest) (omega (arith, last))
          (λ b t. (t, sym (number_roomier b c r.0 r.2), λ le. le))
          (h.chain r.0 r.1)),
    )

-- ---- a reclaim

greatest_low : (high : ℕ) (bs : List ℕ) (m : ℕ) → m ≤ high → fold (λ greatest b. if nat_lt b high then max greatest b else greatest) m bs ≤ high
greatest_low high [] m le = le
greatest_low high (b ∷ bs) m le = greatest_low high bs (if nat_lt b high then max m b else m) (grind (arith, nat_tests))

greatest_rises : (high : ℕ) (bs : List ℕ) (m : ℕ) → m ≤ fold (λ greatest b. if nat_lt b high then max greatest b else greatest) m bs
greatest_rises high [] m = omega arith
greatest_rises high (b ∷ bs) m = grind (arith, nat_tests, greatest_rises high bs (if nat_lt b high then max m b else m))

-- the greatest is at least each of them
greatest_most : (high b : ℕ) (bs : List ℕ) (m : ℕ) → is_among bs b ≡ true → b < high
    → b ≤ fold (λ greatest b. if nat_lt b high then max greatest b else greatest) m bs
greatest_most high b [] m t lt = absurd (both_ways _ refl t)
greatest_most high b (x ∷ bs) m t lt =
    let next = if nat_lt x high then max m x else m in
    grind (arith, nat_tests, greatest_rises high bs next, greatest_most high b bs next)

pin_low : (bs : List ℕ) (w : ℕ) → pin_for bs w ≤ w
pin_low bs w = let low = greatest_low w bs 0 (omega arith) in grind arith

pin_most : (bs : List ℕ) (w b : ℕ) → is_among bs b ≡ true → b ≤ w → b ≤ pin_for bs w
pin_most bs w b t le = let most = greatest_most w b bs 0 t in grind (arith, nat_tests)

reclaimed_before : (bs : List ℕ) (o p : Option ChainValue) (d : ChainValue) → (p ≡ o) ⊎ (p ≡ option_map (reclaimed bs) o) → p ≡ Some d
    → (c : ChainValue) × (o ≡ Some c) × (d.newest ≡ c.newest) × ((b : ℕ) → is_among bs b ≡ true → seen_number b d ≡ seen_number b c)
reclaimed_before bs o p d part is = grind (arith, version_at-reclaimed bs)

pub under-reclaimed : (active : ℕ → Bool) (bs : List ℕ) (v u : ChainsValue) → IsPartReclaimed bs v.chains u.chains → u.last ≡ v.last
    → (w : ℕ) (x : Listed) → IsUnderPin active v w x → IsUnderPin (λ n. active n && is_among bs n) u (pin_for bs w) x
under-reclaimed active bs v u part last w x h = record {
  before = (let lt = h.before in let low = pin_low bs w in omega (arith, lt, low));
  rises = h.rises;
  installed = subst (λ n. x.next ≤ n) (sym last) h.installed;
  between = λ b t low high. (let r = and_parts (active b) (is_among bs b) t in pin_most bs w b r.1 (h.between b r.0 low high));
  chain = λ d found. (let r = reclaimed_before bs (find_chain x.key v.chains) (find_chain x.key u.chains) d (part x.key) found in
      under-chain active (λ n. active n && is_among bs n) v.last u.last w (pin_for bs w) x.number r.0 d r.2 (omega (arith, last))
      (λ b t. (let q = and_parts (active b) (is_among bs b) t in (q.0, r.3 b q.1, pin_most bs w b q.1))) (h.chain r.0 r.1));
}

-- ---- no list stays unclassified

-- an older version of a chain in which all are needed is what some of the numbers sees
needed_seen : (bs : List ℕ) (next m : ℕ) (vs : List Stamped) → IsRisingTo vs next → AreNeeded bs next vs → list_any (λ v. v.number == m) vs ≡ true
    → (b : ℕ) × (is_among bs b ≡ true) × (m ≤ b) × (b < next) × ((d : Option Stamped) → option_map (λ (v : Stamped). v.number) (last_at b d vs) ≡ Some m)
needed_seen bs next m [] rising needed t = absurd (both_ways _ refl t)
needed_seen bs next m (v ∷ vs) rising needed t = elim (or_cases (v.number == m) (list_any (λ v. v.number == m) vs) t) [
  | inl e ↦
      let s = some_between bs v.number _ needed.0 in
      let a = above_first s.0 next vs rising.2 s.3 in
      (s.0, s.1, grind (arith, nat_tests, s.2), a.1, λ d. grind (arith, nat_tests, s.2, stays s.0 v vs a.0))
  | inr e ↦ let r = needed_seen bs next m vs rising.2 needed.1 e in (r.0, r.1, r.2, r.3, λ d. r.4 (if nat_le v.number r.0 then Some v else d))
]

-- a collected version is seen from some of the numbers up to its pin
collected_seen : (bs : List ℕ) (active : ℕ → Bool) (u : ChainsValue) (last w : ℕ) (x : Listed) → ((n : ℕ) → is_among bs n ≡ true → IsTrue (active n))
    → IsKept u.chains last → IsUnderPin active u w x → IsCollected bs u.chains x
    → (b : ℕ) × (is_among bs b ≡ true) × (x.number ≤ b) × (b ≤ w)
collected_seen bs active u last w x all kept h (inl t) = let s = some_between bs x.number x.next t in (s.0, s.1, s.2, h.between s.0 (all s.0 s.1) s.2 s.3)
collected_seen bs active u last w x all kept h (inr s) = by (find_chain x.key u.chains) refl s.0 s.1
  where
    by : (o : Option ChainValue) → find_chain x.key u.chains ≡ o → has_version x.number o ≡ true → IsNeededChain bs o
        → (b : ℕ) × (is_among bs b ≡ true) × (x.number ≤ b) × (b ≤ w)
    by None e has needed = absurd (both_ways _ refl has)
    by (Some c) e has needed =
        let r = needed_seen bs c.newest.number x.number c.older (all-find (IsRisingChain last) x.key c u.chains kept.rising e).0 needed has in
        let sees : seen_number r.0 c ≡ Some x.number = grind (arith, nat_tests, r.3, r.4 None) in
        (r.0, r.1, r.2, (h.chain c e).sees r.0 (all r.0 r.1) r.3 sees)

module _ (bs : List ℕ) (active : ℕ → Bool) (u : ChainsValue) (last : ℕ) (all : (n : ℕ) → is_among bs n ≡ true
    → IsTrue (active n)) (kept : IsKept u.chains last) where
  all_seen : (w : ℕ) (xs : List Listed) → AllByRecursion (IsUnderPin active u w) xs → AllByRecursion (IsCollected bs u.chains) xs
      → list_all (is_seen_from w) xs ≡ true
  all_seen w [] h s = refl
  all_seen w (x ∷ xs) h s =
      let r = collected_seen bs active u last w x all kept h.0 s.0 in
      grind (arith, nat_tests, r.2, r.3, h.0.before, all_seen w xs h.1 s.1)

  -- a pin with a collected version under it is one of the numbers
  seen_among : (w : ℕ) (x : Listed) → is_among (0 ∷ bs) w ≡ true → IsUnderPin active u w x → IsCollected bs u.chains x → is_among bs w ≡ true
  seen_among w x t h s =
      let r = collected_seen bs active u last w x all kept h s in
      grind (arith, nat_tests, r.1, r.3)

  classified_list : (w : ℕ) (xs : List Listed) → is_among (0 ∷ bs) w ≡ true → AllByRecursion (IsUnderPin active u w) xs
      → AllByRecursion (IsCollected bs u.chains) xs → (is_among bs w && list_all (is_seen_from w) xs) ≡ false → xs ≡ []
  classified_list w [] t h s f = refl
  classified_list w (x ∷ xs) t h s f =
      absurd (both_ways _ f (ap (λ b. b && list_all (is_seen_from w) (x ∷ xs)) (seen_among w x t h.0 s.0) ∙ all_seen w (x ∷ xs) h s))

  -- where each unclassified version is collected, there is none
  pub groups-classified : (gs : List GroupValue) → AreAmong (0 ∷ bs) (pins gs) → AreUnderPins active u gs → AreUnclassifiedCollected bs u.chains gs
      → AllByRecursion (IsTrulyUnclassified bs) gs → AllByRecursion IsClassified gs
  groups-classified [] t h s m = tt
  groups-classified (g ∷ gs) t h s m =
      let none : g.unclassified ≡ [] = elim m.0.1 [ inl none ↦ none | inr f ↦ classified_list g.pin g.unclassified t.0 h.0.1 s.0 f ] in
      ((none, omega (arith, m.0.0, ap length none)), groups-classified gs t.1 h.1 s.1 m.1)

-- ---- an install

pub added-refl : (n : ℕ) (o : Option ChainValue) → IsAddedTo n o o
added-refl n o = record { below = λ b lt. refl; newest = inl refl }

pub added-trans : (n : ℕ) (o p q : Option ChainValue) → IsAddedTo n o p → IsAddedTo n p q → IsAddedTo n o q
added-trans n o p q a b = grind (arith, a.below, b.below)

-- a version of number n more is not seen below n
seen_added : (n : ℕ) (o : Option ChainValue) (value : Option Bytes) (room b : ℕ) → b < n → seen_number b (added o (stamped n value) room) ≡ number_seen b o
seen_added n None value room b lt = grind (arith, nat_tests)
seen_added n (Some c) value room b lt = grind (arith, nat_tests, last_at-push b None c.older c.newest)

-- a write with number n
pub added-put : (n : ℕ) (k q : Bytes) (value : Option Bytes) (room : ℕ) (es : Chains)
    → IsAddedTo n (find_chain q es) (find_chain q (put (slice_cmp nat_cmp) k (added (find_chain k es) (stamped n value) room) es))
added-put n k q value room es =
    let put = find_chain-put q k (added (find_chain k es) (stamped n value) room) es in
    grind (arith, seen_added n (find_chain k es) value room, same_key q k, number_added (find_chain k es) (stamped n value) room)

-- what was followed by number n still is
followed_later : (n : ℕ) (k : Bytes) (value : Option Bytes) (room : ℕ) (es : Chains) (x : Listed) → IsFollowed n es x
    → IsFollowed n (put (slice_cmp nat_cmp) k (added (find_chain k es) (stamped n value) room) es) x
followed_later n k value room es x h =
    grind (arith, number_added, h.number, h.next, h.newest, find_chain-put x.key k (added (find_chain k es) (stamped n value) room) es)

followed_own : (n : ℕ) (k : Bytes) (value : Option Bytes) (room : ℕ) (es : Chains) (o : Option ChainValue) → CanAddVersion n o
    → AllByRecursion (IsFollowed n (put (slice_cmp nat_cmp) k (added (find_chain k es) (stamped n value) room) es)) (followed o k n)
followed_own n k value room es None ready = tt
followed_own n k value room es (Some c) ready =
    let own = added (find_chain k es) (stamped n value) room in
    (record { number = ready.0; next = refl; newest = λ d found. grind (arith, number_added, find-put_itself k own es) }, tt)

pub followed-write : (n : ℕ) (k : Bytes) (value : Option Bytes) (room : ℕ) (es : Chains) (ls : List Listed) → CanAddVersion n (find_chain k es)
    → AllByRecursion (IsFollowed n es) ls
    → AllByRecursion (IsFollowed n (put (slice_cmp nat_cmp) k (added (find_chain k es) (stamped n value) room) es)) (ls ++ followed (find_chain k es) k n)
followed-write n k value room es ls ready h =
    let fs = put (slice_cmp nat_cmp) k (added (find_chain k es) (stamped n value) room) es in
    all-append (IsFollowed n fs) ls (followed (find_chain k es) k n) (all-each (IsFollowed n es) (IsFollowed n fs) ls (followed_later n k value room es) h)
    (followed_own n k value room es (find_chain k es) ready)

-- a version under its chain is under the chain that is left by an install
under_added : (active : ℕ → Bool) (last n w m : ℕ) (o : Option ChainValue) (d : ChainValue) → last < n → m < n → IsAddedTo n o (Some d)
    → ((c : ChainValue) → o ≡ Some c → IsUnderChain active last w m c) → IsUnderChain active n w m d
under_added active last n w m o d lt low h u = elim h.newest [
  | inl e ↦ (let r = u d (sym e) in record { behind = r.behind; installed = omega (arith, r.installed); sees = r.sees })
  | inr e ↦ (let is : d.newest.number
      ≡ n = cc in record {
        behind = omega arith;
        installed = omega arith;
        sees = λ b t high sees. old o u b t (sym (h.below b (omega (arith, is, high))) ∙ sees);
      })
]
  where
    old : (p : Option ChainValue) → ((c : ChainValue) → p ≡ Some c → IsUnderChain active last w m c) → (b : ℕ) → IsTrue (active b) → number_seen b p ≡ Some m
        → b ≤ w
    old None g b t e = cc
    old (Some c) g b t e = let r = g c refl in grind (arith, nat_tests, r.behind, r.sees b t)

pub under-installed : (active : ℕ → Bool) (v u : ChainsValue) (n : ℕ) → v.last < n → u.last ≡ n
    → ((k : Bytes) → IsAddedTo n (find_chain k v.chains) (find_chain k u.chains)) → (w : ℕ) (x : Listed) → IsUnderPin active v w x → IsUnderPin active u w x
under-installed active v u n lt last chains w x h =
    let installed : x.next ≤ u.last = omega (arith, h.installed) in
    assumption (
      installed,
      λ (d : ChainValue) (found : find_chain x.key u.chains ≡ Some d). subst (λ l. IsUnderChain active l w x.number d) (sym last)
          (under_added active v.last n w x.number (find_chain x.key v.chains) d lt (omega (arith, h.rises, h.installed))
          (subst (IsAddedTo n (find_chain x.key v.chains)) found (chains x.key)) h.chain),
    )

-- what a commit superseded is listed under the number before it
under-followed : (active : ℕ → Bool) (u : ChainsValue) (n : ℕ) → 0 < n → u.last ≡ n → (x : Listed) → IsFollowed n u.chains x → IsUnderPin active u (n - 1) x
under-followed active u n some last x h = grind (arith, h.next, h.number, h.newest)

-- one group more
groups-last : (active : ℕ → Bool) (u : ChainsValue) (gs : List GroupValue) (g : GroupValue) → AreUnderPins active u gs
    → AllByRecursion (IsUnderPin active u g.pin) g.versions → g.unclassified ≡ [] → AreUnderPins active u (gs ++ g ∷ [])
groups-last active u gs g h own none =
    all-append (IsUnder active u) gs (g ∷ []) h ((own, subst (AllByRecursion (IsUnderPin active u g.pin)) (sym none) tt), tt)

pub groups-installed : (active : ℕ → Bool) (v u : ChainsValue) (n : ℕ) (g : GroupValue) (ls : List Listed) → v.last < n → u.last ≡ n
    → ((k : Bytes) → IsAddedTo n (find_chain k v.chains) (find_chain k u.chains)) → u.groups ≡ v.groups ++ g ∷ []
    → g.pin ≡ n - 1 → g.unclassified ≡ [] → g.versions ≡ ls → AllByRecursion (IsFollowed n u.chains) ls → AreUnderPins active v v.groups
    → AreUnderPins active u u.groups
groups-installed active v u n g ls lt last chains groups pin unclassified versions each h =
    let own : AllByRecursion (IsUnderPin active u (n - 1)) ls =
    all-each (IsFollowed n u.chains) (IsUnderPin active u (n - 1)) ls (under-followed active u n (omega arith) last) each in
    subst (AreUnderPins active u) (sym groups)
    (groups-last active u v.groups g (groups-under active active v u v.groups (under-installed active v u n lt last chains) h)
    (subst (λ (p : ℕ × List Listed). AllByRecursion (IsUnderPin active u p.0) p.1) {x = (n - 1, ls)} {y = (g.pin, g.versions)}
    (λ i. (sym pin i, sym versions i)) own) unclassified)
