-- The loops over what is listed.
use Rattle.std.proofs.Common.{add-one, ◌≡◌, ℕ, zero, suc, ◌+◌, ◌-◌, ◌<◌, ◌≤◌, Bool, true, false, ◌&&◌, List, [], ◌∷◌}
use Rattle.std.proofs.Common.{◌++◌, length, take, drop, get_or, set, Option, Some, None, refl, sym, ap, subst, ◌∙◌}
use Rattle.std.proofs.Common.{arith, inl, inr}
use Rattle.std.proofs.lemmas.Bool.{both_ways, and_right, or_left}
use Rattle.std.proofs.lemmas.Bool.Decides.{nat_tests}
use Rattle.std.proofs.lemmas.Grind.{common_steps}
use Rattle.std.proofs.lemmas.List.{get_or-take, length-take, drop-set, take-set, take-take, drop_all, take_all}
use Rattle.std.proofs.lemmas.List.{length-set}
use Rattle.std.proofs.lemmas.List.Folds.{list_all-append}
use Rattle.std.proofs.lemmas.List.Recursion.{is_sum_by}
use Rattle.std.proofs.lemmas.List.Sorted.{list_any-IsPermutation, IsPermutation-swap_remove}
use Rattle.std.specs.List.{AllByRecursion, list_any, list_all, remove, sum_by}
use Rattle.std.specs.Prelude.{option_map, nat_lt, nat_le, ◌==◌, ◌⊎◌, if◌then◌else◌, swap_remove, IfSome}
use Rattle.std.specs.declared.vec.Vec.{Vec}
use Rattle.model.proofs.Elements.{all-each, all-get, all-map, all-more, all-remove, all-set, all-take, any-remove}
use Rattle.model.proofs.Elements.{any-set}
use Rattle.model.proofs.Lookups.{same_key, same_key_itself}
use Rattle.model.specs.Map.{Bytes}
use Rattle.sorted_pages.specs.Pages.{KeepsHeld, PagesValue, entries}
use Rattle.versions.proofs.ChainLaws.{any-weaker, between-wider}
use Rattle.versions.proofs.Listings.{needed-chain, reclaimed-needed, part-at, part-trans, all-collected-part}
use Rattle.versions.proofs.Listings.{left-part, listed-part}
use Rattle.versions.proofs.Stores.{rising_found}
use Rattle.versions.proofs.UnderPins.{IsUnder}
use Rattle.versions.proofs.Pins.{lists-set, pin-among}
use Rattle.versions.specs.Chains.{Stamped, ChainValue, Chains, ChainsValue, find_chain, number_of_first, is_between}
use Rattle.versions.specs.Chains.{reclaimed, IsKept, IsReclaimedAt}
use Rattle.versions.specs.Groups.{GroupValue, Listed}
use Rattle.versions.specs.Listings.{AreOfBoth, is_seen_from, is_seen_by, AreSeenFrom, is_of, is_in, is_listed}
use Rattle.versions.specs.Listings.{AreListed, IsListedChain, IsListed, AreFound, has_version, AreNeeded}
use Rattle.versions.specs.Listings.{IsNeededChain, IsAllReclaimed, IsCollected, IsPartReclaimed, AreKept, AreAmong}
use Rattle.versions.specs.Listings.{versions_in, pin_for, pins, lists_in}
use Rattle.versions.specs.Meaning.{is_among, garbage_for, garbage_in, lists_a_step}
use Rattle.versions.specs.Reclaiming.{AreLookedAt, DropsFromGroup, IsLookedAfter, KeepsListed, ReclaimsChains}
use Rattle.versions.specs.Reclaiming.{ReclaimsStep}
use Rattle.versions.specs.Pins.{GroupStaysUnder, GroupsJoinUnder, AreUnder, AreUnderPins, IsUnderPin}

-- ---- a fact of each element

all-swap_remove : {X : Type 0} (P : X → Type 0) (xs : List X) (i : ℕ) (d : X) → i < length xs → AllByRecursion P xs → AllByRecursion P (swap_remove xs i d)
all-swap_remove P xs i d lt h =
    all-take P (set xs i (get_or xs (length xs - 1) d)) (length xs
    - 1) (all-set P xs i (get_or xs (length xs - 1) d) (all-get P xs (length xs - 1) d (omega arith) h) h)

-- those behind the place that was filled from the end
rest-filled : {X : Type 0} (P : X → Type 0) (xs : List X) (i n : ℕ) (d : X) → length xs ≡ suc n → i < length xs → AllByRecursion P (drop (suc i) xs)
    → AllByRecursion P (drop i (take n (set xs i (get_or xs n d))))
rest-filled P [] i n d long lt h = absurd (omega arith)
rest-filled P (x ∷ []) zero n d long lt h = subst (λ k. AllByRecursion P (take k (get_or (x ∷ []) k d ∷ []))) {x = 0} {y = n} (omega (arith, long)) tt
rest-filled P (x ∷ y ∷ xs) zero zero d long lt h = absurd (omega arith)
rest-filled P (x ∷ y ∷ xs) zero (suc n) d long lt h = (all-get P (y ∷ xs) n d (omega (arith, long)) h, all-take P (y ∷ xs) n h)
rest-filled P (x ∷ xs) (suc i) zero d long lt h = absurd (omega arith)
rest-filled P (x ∷ xs) (suc i) (suc n) d long lt h = rest-filled P xs i n d (omega (arith, long)) (omega arith) h

rest-swap_remove : {X : Type 0} (P : X → Type 0) (xs : List X) (i : ℕ) (d : X) → i < length xs → AllByRecursion P (drop (suc i) xs)
    → AllByRecursion P (drop i (swap_remove xs i d))
rest-swap_remove P xs i d lt h = rest-filled P xs i (length xs - 1) d (omega arith) lt h

-- behind the last there is none
all-none : {X : Type 0} (P : X → Type 0) (xs : List X) → AllByRecursion P (drop (length xs) xs)
all-none P xs = subst (AllByRecursion P) (sym (drop_all (length xs) xs (omega arith))) tt

-- one is put before those that are such
all-put : {X : Type 0} (P : X → Type 0) (xs : List X) (i : ℕ) (y : X) → i < length xs → P y → AllByRecursion P (drop (suc i) xs)
    → AllByRecursion P (drop i (set xs i y))
all-put P xs i y lt p h = rw (drop-set, add-one) (p, h)

-- those before it stay
all-ahead : {X : Type 0} (P : X → Type 0) (xs : List X) (i : ℕ) (y : X) → AllByRecursion P (take (suc i) xs) → AllByRecursion P (take i (set xs i y))
all-ahead P xs i y h = rw (take-set, ← take-take i (suc i) xs (omega arith)) (all-take P (take (suc i) xs) i h)

-- and it was one of them
all-last : {X : Type 0} (P : X → Type 0) (xs : List X) (i : ℕ) (x : X) → i < length xs → x ≡ get_or xs i x → AllByRecursion P (take (suc i) xs) → P x
all-last P xs i x lt at h =
    subst P (get_or-take (suc i) xs i x (omega arith) ∙ sym at) (all-get P (take (suc i) xs) i x (omega (arith, length-take (suc i) xs)) h)

-- ---- one of the numbers sees the version

among-between : (bs : List ℕ) (n : ℕ) (v : Listed) → is_among bs n ≡ true → is_seen_from n v ≡ true → is_between bs v.number v.next ≡ true
among-between bs n v t s = any-weaker (λ b. b == n) (λ b. nat_le v.number b && nat_lt b v.next) bs (λ b e. grind (arith, nat_tests, e, s)) t

next-between : (bs : List ℕ) (o : Option ℕ) (v : Listed) → IfSome o (λ n. is_among bs n ≡ true) → is_seen_by o v ≡ true → is_between bs v.number v.next ≡ true
next-between bs o v a s = grind (arith, λ (n : ℕ). among-between bs n v)

pub all-between : (bs : List ℕ) (es : Chains) (n : ℕ) (vs : List Listed) → is_among bs n ≡ true → AreSeenFrom n vs → AllByRecursion (IsCollected bs es) vs
all-between bs es n vs t h = all-each (λ v. is_seen_from n v ≡ true) (IsCollected bs es) vs (λ v s. inl (among-between bs n v t s)) h

-- ---- the loop over a group's versions

-- those from `left` on were looked at
pub record Dropping (bs : List ℕ) (old now : Chains) (os vs : List Listed) (left : ℕ) : Type 0 where
  pub in_range : left ≤ length vs
  pub part : IsPartReclaimed bs old now
  pub kept : (last : ℕ) → IsKept old last → IsKept now last
  pub collected : AllByRecursion (IsCollected bs now) (drop left vs)
  pub left_out : AreKept os vs now
  pub seen : (n : ℕ) → AreSeenFrom n os → AreSeenFrom n vs
  pub each : (active : ℕ → Bool) (v : ChainsValue) (w : ℕ) → AllByRecursion (IsUnderPin active v w) os → AllByRecursion (IsUnderPin active v w) vs

-- no version was looked at
pub dropping-none : (bs : List ℕ) (es : Chains) (vs : List Listed) (left : ℕ) → left ≡ length vs → Dropping bs es es vs vs left
dropping-none bs es vs left all = subst (Dropping bs es es vs vs) (sym all) (record {
  in_range = omega arith;
  part = λ k. inl refl;
  kept = λ n h. h;
  collected = all-none (IsCollected bs es) vs;
  left_out = λ k n high t. or_left (is_in vs k n high) _ t;
  seen = λ n h. h;
  each = λ active v w h. h;
})

-- some number sees the version
pub dropping-seen : (bs : List ℕ) (old now : Chains) (os vs : List Listed) (m left : ℕ) (v : Listed) (o : Option ℕ) → left ≡ m + 1 → v ≡ get_or vs m v
    → IfSome o (λ n. is_among bs n ≡ true) → is_seen_by o v ≡ true
    → Dropping bs old now os vs left → Dropping bs old now os vs m
dropping-seen bs old now os vs m left v o next at a s d =
    let in_range : m ≤ length vs = omega arith in
    let rest = subst (λ n. AllByRecursion (IsCollected bs now) (drop n vs)) {x = left} {y = suc m} (omega arith) d.collected in
    let collected = all-more (IsCollected bs now) vs m v (omega arith) at (inl (next-between bs o v a s)) rest in
    assumption (in_range, collected)

module _ (bs : List ℕ) (old now new : Chains) (os vs : List Listed) (m left last : ℕ) (v : Listed) (next : left ≡ m + 1) (at : v
    ≡ get_or vs m v) (ordered : IsKept old last) (r : IsReclaimedAt bs v.key now new) (d : Dropping bs old now os vs left) where
  step : IsPartReclaimed bs now new
  step = part-at bs v.key now new r

  within : m < length vs
  within = omega arith

  rest : AllByRecursion (IsCollected bs new) (drop (suc m) vs)
  rest = all-collected-part bs now new step (drop (suc m) vs)
      (subst (λ n. AllByRecursion (IsCollected bs now) (drop n vs)) {x = left} {y = suc m} (omega arith) d.collected)

  needed : IsNeededChain bs (find_chain v.key new)
  needed = subst (IsNeededChain bs)
      (sym (r.found v.key ∙ ap (λ b. if b then option_map (reclaimed bs) (find_chain v.key now) else find_chain v.key now) (same_key_itself v.key)))
      (needed-chain bs (find_chain v.key now) last (rising_found v.key now last (d.kept last ordered)))

  -- the version is still there
  pub dropping-stays : has_version v.number (find_chain v.key new) ≡ true → Dropping bs old new os vs m
  dropping-stays there =
      let in_range : m ≤ length vs = omega (arith, within) in
      let part = part-trans bs old now new last ordered d.part step in
      let kept = λ (n : ℕ) (h : IsKept old n). r.kept n (d.kept n h) in
      let collected = all-more (IsCollected bs new) vs m v within at (inr (there, needed)) rest in
      assumption (in_range, part, kept, collected, left-part bs now new os vs step d.left_out)

  -- the version is gone
  pub dropping-leaves : (us : List Listed) → us ≡ swap_remove vs m v → has_version v.number (find_chain v.key new) ≡ false → Dropping bs old new os us m
  dropping-leaves us is gone = record {
    in_range = grind (arith, common_steps, within, ap length is);
    part = part-trans bs old now new last ordered d.part step;
    kept = λ n h. r.kept n (d.kept n h);
    collected = subst (λ l. AllByRecursion (IsCollected bs new) (drop m l)) (sym is) (rest-swap_remove (IsCollected bs new) vs m v within rest);
    left_out = λ k n high t. (
        let still = left-part bs now new os vs step d.left_out k n high t in
        let split = list_any-IsPermutation (is_of k n high) vs (v ∷ swap_remove vs m v) (IsPermutation-swap_remove vs m v within at) in
        grind (arith, nat_tests, same_key k v.key));
    seen = λ n h. subst (AreSeenFrom n) (sym is) (all-swap_remove (λ x. is_seen_from n x ≡ true) vs m v within (d.seen n h));
    each = λ active u w h. subst (λ l. AllByRecursion (IsUnderPin active u w) l) (sym is)
        (all-swap_remove (IsUnderPin active u w) vs m v within (d.each active u w h));
  }

-- ---- the loop over groups

-- what was looked at stays so where chains are reclaimed
looked-part : (bs : List ℕ) (now new : Chains) → IsPartReclaimed bs now new → (g : GroupValue) → IsLookedAfter bs now g → IsLookedAfter bs new g
looked-part bs now new p g h = record {
  collected = λ none. all-collected-part bs now new p g.versions (h.collected none);
  unclassified = all-collected-part bs now new p g.unclassified h.unclassified;
  truly = h.truly;
}

-- ---- groups that were not looked at yet

-- what is under a pin is under the one that replaces it
abbrev pub StandsUnder : List ℕ → (ℕ → Bool) → ChainsValue → (ℕ → Bool) → ChainsValue → Type 0
StandsUnder bs more v active u = (w : ℕ) (x : Listed) → IsUnderPin more v w x → IsUnderPin active u (pin_for bs w) x

stays-under : (bs : List ℕ) (more active : ℕ → Bool) (v u : ChainsValue) (g h : GroupValue) → h.pin ≡ pin_for bs g.pin → GroupStaysUnder g h
    → StandsUnder bs more v active u → IsUnder more v g → IsUnder active u h
stays-under bs more active v u g h is stays stands under =
    let w = pin_for bs g.pin in
    let left = stays more v g.pin under.0 under.1 in
    let step = λ (xs : List Listed). all-each (IsUnderPin more v g.pin) (IsUnderPin active u w) xs (stands g.pin) in
    subst (λ n. AllByRecursion (IsUnderPin active u n) h.versions × AllByRecursion (IsUnderPin active u n) h.unclassified) (sym is)
    (step h.versions left.0, step h.unclassified left.1)

-- what is listed with another group in a group's place
listed-set : (gs : List GroupValue) (i : ℕ) (g h : GroupValue) (k : Bytes) (n high : ℕ) → i < length gs → g ≡ get_or gs i g
    → (is_in g.versions k n high ≡ true → is_in h.versions k n high ≡ true) → is_listed gs k n high ≡ true → is_listed (set gs i h) k n high ≡ true
listed-set gs i g h k n high lt at more t =
    let p = λ (y : GroupValue). is_in y.versions k n high in
    grind (arith, any-remove p gs i g lt at, any-set p gs i h lt)

garbage-sum : (bs : List ℕ) (gs : List GroupValue) → garbage_in bs gs ≡ sum_by (garbage_for bs) gs
garbage-sum bs = is_sum_by (garbage_in bs) (garbage_for bs) refl (λ _ _. refl)

-- the garbage with another group in a group's place
garbage-set : (bs : List ℕ) (gs : List GroupValue) (i : ℕ) (g h : GroupValue) → i < length gs → g ≡ get_or gs i g
    → garbage_in bs (set gs i h) + garbage_for bs g ≡ garbage_in bs gs + garbage_for bs h
garbage-set bs gs i g h lt at = grind (arith, common_steps, garbage-sum bs)

-- the garbage from there on
garbage-put : (bs : List ℕ) (gs : List GroupValue) (i : ℕ) (h : GroupValue) → i < length gs
    → garbage_in bs (drop i (set gs i h)) ≡ garbage_for bs h + garbage_in bs (drop (suc i) gs)
garbage-put bs gs i h lt = rw (drop-set, add-one)

-- the pin is one of the numbers or 0
abbrev pub IsActive : List ℕ → GroupValue → Type 0
IsActive bs g = is_among (0 ∷ bs) g.pin ≡ true

-- the groups from `left` on were looked at, and `most` of the garbage lists may be looked at still
pub record Settling (bs : List ℕ) (old now : Chains) (olds gs : List GroupValue) (left most : ℕ) : Type 0 where
  pub in_range : left ≤ length gs
  pub part : IsPartReclaimed bs old now
  pub kept : (last : ℕ) → IsKept old last → IsKept now last
  pub listed : IsListed now gs
  pub looked_after : AllByRecursion (IsLookedAfter bs now) (drop left gs)
  pub looked_at : garbage_in bs gs + lists_a_step ≡ garbage_in bs olds + most
  pub none_behind : 0 < most → garbage_in bs (drop left gs) ≡ 0
  pub few : most ≤ lists_a_step
  pub active : AllByRecursion (IsActive bs) (drop left gs)
  pub lists : lists_in gs ≤ lists_in olds
  pub each : (more active : ℕ → Bool) (v u : ChainsValue) → StandsUnder bs more v active u → AreUnderPins more v olds → AreUnderPins active u (drop left gs)
  pub before : (more : ℕ → Bool) (v : ChainsValue) → AreUnderPins more v olds → AreUnderPins more v (take left gs)

-- no group was looked at
pub collecting-none : (bs : List ℕ) (es : Chains) (gs : List GroupValue) → IsListed es gs → Settling bs es es gs gs (length gs) lists_a_step
collecting-none bs es gs listed =
    let none = drop_all (length gs) gs (omega arith) in
    record {
      in_range = omega arith;
      part = λ k. inl refl;
      kept = λ n h. h;
      listed = listed;
      looked_after = all-none (IsLookedAfter bs es) gs;
      looked_at = refl;
      none_behind = λ some. ap (garbage_in bs) none;
      few = omega arith;
      active = all-none (IsActive bs) gs;
      lists = omega arith;
      each = λ more active v u stands under. all-none (IsUnder active u) gs;
      before = λ more v under. subst (AreUnderPins more v) (sym (take_all (length gs) gs (omega arith))) under;
    }

-- the group before them was looked at
pub collecting-collected : (bs : List ℕ) (old now new : Chains) (olds gs : List GroupValue) (i left last most more : ℕ) (g h : GroupValue) → left ≡ i + 1
    → g ≡ get_or gs i g → IsKept old last → more ≡ most - garbage_for bs g → garbage_for bs h ≡ garbage_for bs g - most
    → ReclaimsChains bs now new → DropsFromGroup new (pin_for bs g.pin) g h → IsLookedAfter bs new h
    → Settling bs old now olds gs left most
    → Settling bs old new olds (set gs i h) i more
collecting-collected bs old now new olds gs i left last most more g h next at ordered spare garbage chains group looked t =
    let p = chains.part in
    let active : IsActive bs h = ap (is_among (0 ∷ bs)) group.pin ∙ pin-among bs g.pin in
    let counted = group.lists in
    let s = subst (λ n. Settling bs old now olds gs n most) {x = left} {y = suc i} (omega (arith, next)) t in
    let lt : i < length gs = omega arith in
    let sum = garbage-set bs gs i g h lt at in
    let lists = lists-set gs i g h lt at in
    record {
      in_range = omega (arith, lt, length-set {A = GroupValue});
      part = part-trans bs old now new last ordered s.part p;
      kept = λ n k. chains.kept n (s.kept n k);
      listed = listed-part bs now new gs (set gs i h) last (s.kept last ordered) p (λ k n high there.
          let stays = group.left k n high in listed-set gs i g h k n high lt at (λ e. grind arith)) s.listed;
      looked_after = all-put (IsLookedAfter bs new) gs i h lt looked
          (all-each (IsLookedAfter bs now) _ (drop (suc i) gs) (looked-part bs now new p) s.looked_after);
      looked_at = omega arith;
      none_behind = λ some. omega (arith, garbage-put bs gs i h lt, s.none_behind);
      few = omega arith;
      active = all-put (IsActive bs) gs i h lt active s.active;
      lists = omega arith;
      each = λ more active v u stands under.
          let own = all-last (IsUnder more v) gs i g lt at (s.before more v under) in
          all-put (IsUnder active u) gs i h lt (stays-under bs more active v u g h group.pin group.each stands own) (s.each more active v u stands under);
      before = λ more v under. all-ahead (IsUnder more v) gs i h (s.before more v under);
    }

-- ---- the end of the loop

listed-needed : (bs : List ℕ) (es : Chains) (k : Bytes) (n high : ℕ) (vs : List Listed) → AllByRecursion (IsCollected bs es) vs → is_in vs k n high ≡ true
    → (is_between bs n high ≡ true) ⊎ IsNeededChain bs (find_chain k es)
listed-needed bs es k n high [] h t = absurd (both_ways _ refl t)
listed-needed bs es k n high (v ∷ vs) h t =
    let own = h.0 in
    grind (arith, nat_tests, listed-needed bs es k n high vs h.1, between-wider bs v.number v.next n high, same_key k v.key)

group-needed : (bs : List ℕ) (es : Chains) (k : Bytes) (n high : ℕ) (gs : List GroupValue)
    → AllByRecursion (λ g. AllByRecursion (IsCollected bs es) g.versions) gs → is_listed gs k n high ≡ true
    → (is_between bs n high ≡ true) ⊎ IsNeededChain bs (find_chain k es)
group-needed bs es k n high [] h t = absurd (both_ways _ refl t)
group-needed bs es k n high (g ∷ gs) h t = grind (arith, listed-needed bs es k n high g.versions h.0, group-needed bs es k n high gs h.1)

-- all versions of the chain are needed, or one of them says so of the chain
each-needed : (bs : List ℕ) (es : Chains) (k : Bytes) (next : ℕ) (gs : List GroupValue) (us : List Stamped)
    → AllByRecursion (λ g. AllByRecursion (IsCollected bs es) g.versions) gs → AreListed gs k next us
    → AreNeeded bs next us ⊎ IsNeededChain bs (find_chain k es)
each-needed bs es k next gs [] h l = inl tt
each-needed bs es k next gs (u ∷ us) h l = grind (arith, group-needed bs es k u.number (number_of_first us next) gs h l.0, each-needed bs es k next gs us h l.1)

chain-needed : (bs : List ℕ) (es : Chains) (k : Bytes) (gs : List GroupValue) (o : Option ChainValue) → find_chain k es ≡ o
    → AllByRecursion (λ g. AllByRecursion (IsCollected bs es) g.versions) gs → IsListedChain gs k o → IsNeededChain bs o
chain-needed bs es k gs None e h l = tt
chain-needed bs es k gs (Some c) e h l = grind (arith, each-needed bs es k c.newest.number gs c.older h l)

all-collected : (bs : List ℕ) (es : Chains) (gs : List GroupValue) → garbage_in bs gs ≡ 0 → AllByRecursion (IsLookedAfter bs es) gs
    → AllByRecursion (λ g. AllByRecursion (IsCollected bs es) g.versions) gs
all-collected bs es [] none h = tt
all-collected bs es (g ∷ gs) none h = (h.0.collected (omega (arith, none)), all-collected bs es gs (omega (arith, none)) h.1)

-- so many lists are no longer garbage
collecting-garbage : (bs : List ℕ) (old now : Chains) (olds gs : List GroupValue) (most : ℕ) → Settling bs old now olds gs 0 most
    → garbage_in bs gs ≡ garbage_in bs olds - lists_a_step
collecting-garbage bs old now olds gs most s =
    let none : 0 < most → garbage_in bs gs ≡ 0 = s.none_behind in
    grind (arith, s.looked_at, s.few)

-- each pin is one of the numbers or 0
collecting-active : (bs : List ℕ) (old now : Chains) (olds gs : List GroupValue) (most : ℕ) → Settling bs old now olds gs 0 most
    → AreAmong (0 ∷ bs) (pins gs)
collecting-active bs old now olds gs most s = all-map (λ n. is_among (0 ∷ bs) n ≡ true) (λ g. g.pin) gs s.active

-- where none is garbage, all chains were reclaimed
collecting-ended : (bs : List ℕ) (old now : Chains) (olds gs : List GroupValue) (most : ℕ) → Settling bs old now olds gs 0 most → garbage_in bs gs ≡ 0
    → IsAllReclaimed bs old now
collecting-ended bs old now olds gs most s none k =
    let collected = all-collected bs now gs none s.looked_after in
    let same = reclaimed-needed bs (find_chain k now) (chain-needed bs now k gs (find_chain k now) refl collected (s.listed k)) in
    grind (arith, s.part k)

-- where nothing is listed, nothing is left to reclaim
pub reclaimed-unlisted : (bs : List ℕ) (es : Chains) (gs : List GroupValue) → gs ≡ [] → IsListed es gs → IsAllReclaimed bs es es
reclaimed-unlisted bs es gs none listed k =
    let left = subst (IsListed es) none listed in
    sym (reclaimed-needed bs (find_chain k es) (chain-needed bs es k [] (find_chain k es) refl tt (left k)))

-- a step was made
pub collecting-step : (bs : List ℕ) (old now : PagesValue ChainValue) (olds gs : List GroupValue) (most : ℕ) → KeepsHeld old now
    → Settling bs (entries old.pages) (entries now.pages) olds gs 0 most → ReclaimsStep bs old now olds gs
collecting-step bs old now olds gs most held s = record {
  garbage = collecting-garbage bs (entries old.pages) (entries now.pages) olds gs most s;
  pages = record { chains = record { part = s.part; kept = s.kept }; held = held };
  all = collecting-ended bs (entries old.pages) (entries now.pages) olds gs most s;
}

-- and all groups were looked at
pub collecting-all : (bs : List ℕ) (old now : Chains) (olds gs : List GroupValue) (most : ℕ) → Settling bs old now olds gs 0 most
    → AreLookedAt bs now olds gs
collecting-all bs old now olds gs most s = record {
  listed = s.listed;
  lists = s.lists;
  active = collecting-active bs old now olds gs most s;
  truly = all-each (IsLookedAfter bs now) _ gs (λ g h. h.truly) s.looked_after;
  unclassified = all-each (IsLookedAfter bs now) _ gs (λ g h. h.unclassified) s.looked_after;
  each = s.each;
}

-- some list is garbage
pub any-garbage : (bs : List ℕ) (gs : List GroupValue) → list_any (λ g. nat_lt 0 (garbage_for bs g)) gs ≡ nat_lt 0 (garbage_in bs gs)
any-garbage bs [] = refl
any-garbage bs (g ∷ gs) = grind (arith, nat_tests, any-garbage bs gs)

-- ---- groups that are joined

pub keeps-itself : (gs : List GroupValue) → KeepsListed gs gs
keeps-itself gs = record {
  found = λ k n high t. t;
  garbage = λ bs. refl;
  active = λ bs h. h;
  truly = λ bs h. h;
  unclassified = λ bs es h. h;
  each = λ active v h. h;
}

pub keeps-on : (gs hs js : List GroupValue) → KeepsListed gs hs → KeepsListed hs js → KeepsListed gs js
keeps-on gs hs js one two = record {
  found = λ k n high t. two.found k n high (one.found k n high t);
  garbage = λ bs. two.garbage bs ∙ one.garbage bs;
  active = λ bs h. two.active bs (one.active bs h);
  truly = λ bs h. two.truly bs (one.truly bs h);
  unclassified = λ bs es h. two.unclassified bs es (one.unclassified bs es h);
  each = λ active v h. two.each active v (one.each active v h);
}

pub found-remove : (gs hs : List GroupValue) (i : ℕ) (g : GroupValue) → i < length gs → g ≡ get_or gs i g → hs ≡ remove gs i
    → g.versions ≡ [] → AreFound gs hs
found-remove gs hs i g lt at less none k n high t =
    let p = λ (y : GroupValue). is_in y.versions k n high in
    grind (arith, any-remove p gs i g lt at, ap (list_any p) less, ap (λ l. is_in l k n high) none)

-- a group's versions move to another
pub join-found : (gs hs : List GroupValue) (i m : ℕ) (a g j : GroupValue) → i < length gs → g ≡ get_or gs i g → hs ≡ remove gs i → m < length hs
    → a ≡ get_or hs m a → AreOfBoth a.versions g.versions j.versions → AreFound gs (set hs m j)
join-found gs hs i m a g j lt second less short first both k n high t =
    let p = λ (y : GroupValue). is_in y.versions k n high in
    let own = any-remove p gs i g lt second in
    let other = any-remove p hs m a short first in
    grind (arith, both k n high, ap (list_any p) less, any-set p hs m j short)

-- ---- the garbage stays when groups are joined

pub garbage-empty : (bs : List ℕ) (gs hs : List GroupValue) (i : ℕ) (g : GroupValue) → i < length gs → g ≡ get_or gs i g → hs ≡ remove gs i
    → garbage_for bs g ≡ 0
    → garbage_in bs hs ≡ garbage_in bs gs
garbage-empty bs gs hs i g lt at is none = grind (arith, common_steps, garbage-sum bs, ap (garbage_in bs) is)

pub garbage-joined : (bs : List ℕ) (gs hs : List GroupValue) (i m : ℕ) (a g j : GroupValue) → i < length gs → g ≡ get_or gs i g → hs ≡ remove gs i
    → a ≡ get_or hs m a → m < length hs → garbage_for bs j ≡ garbage_for bs a + garbage_for bs g → garbage_in bs (set hs m j) ≡ garbage_in bs gs
garbage-joined bs gs hs i m a g j lt second less first short both =
    let left = ap (garbage_in bs) less in
    grind (arith, common_steps, garbage-set bs hs m a j short first, garbage-sum bs)

-- ---- what is unclassified

list_all-lists : {Z : Type 0} (p : Listed → Bool) (xs : List (Vec Listed Z)) → list_all p (versions_in xs) ≡ list_all (λ x. list_all p x.items) xs
list_all-lists p [] = refl
list_all-lists p (x ∷ xs) = list_all-append p x.items (versions_in xs) ∙ ap (λ b. list_all p x.items && b) (list_all-lists p xs)

-- the number doesn't see each version of the lists
pub unseen : {Z : Type 0} (bs : List ℕ) (w : ℕ) (xs : List (Vec Listed Z)) → list_all (λ x. list_all (is_seen_from w) x.items) xs ≡ false
    → (is_among bs w && list_all (is_seen_from w) (versions_in xs)) ≡ false
unseen bs w xs f = and_right (is_among bs w) _ (list_all-lists (is_seen_from w) xs ∙ f)

-- they are the only unclassified ones
pub unseen-put : (bs : List ℕ) (w : ℕ) (ms us vs : List Listed) → vs ≡ ms ++ us → ms ≡ [] → (is_among bs w && list_all (is_seen_from w) us) ≡ false
    → (is_among bs w && list_all (is_seen_from w) vs) ≡ false
unseen-put bs w ms us vs is none f = let same = is ∙ ap (λ l. l ++ us) none in grind arith

-- one of the groups is joined to another
pub all-joined : (P : GroupValue → Type 0) (gs hs : List GroupValue) (i m : ℕ) (a g j : GroupValue) → i < length gs → g ≡ get_or gs i g → hs ≡ remove gs i
    → m < length hs → a ≡ get_or hs m a → (P a → P g → P j) → AllByRecursion P gs → AllByRecursion P (set hs m j)
all-joined P gs hs i m a g j lt at less within other joins h =
    let left = subst (λ l. AllByRecursion P l) (sym less) (all-remove P gs i h) in
    all-set P hs m j (joins (subst P (sym other) (all-get P hs m a within left)) (subst P (sym at) (all-get P gs i g lt h))) left

-- two groups with the same pin are joined, and what they list stays under it
pub under-joined : (active : ℕ → Bool) (v : ChainsValue) (a g j : GroupValue) → a.pin ≡ g.pin → j.pin ≡ a.pin
    → GroupsJoinUnder a g j → IsUnder active v a → IsUnder active v g → IsUnder active v j
under-joined active v a g j one own each ha hg =
    let at = λ (x : GroupValue) (n : ℕ). AreUnder active v n x.versions × AreUnder active v n x.unclassified in
    let other = subst (at g) (sym one) hg in
    subst (at j) (sym own) (each active v a.pin ha.0 ha.1 other.0 other.1)
