-- The loop over a group's lists.
use Rattle.std.proofs.Common.{◌≡◌, ℕ, Bool, true, false, List, [], ◌∷◌, ◌++◌, length, take, drop, get_or, set, ◌<◌}
use Rattle.std.proofs.Common.{◌≤◌}
use Rattle.std.proofs.Common.{refl, sym, ap, subst, ◌∙◌, arith}
use Rattle.std.proofs.lemmas.Bool.{and_parts, both_ways, eqb-true}
use Rattle.std.proofs.lemmas.Bool.Decides.{nat_tests}
use Rattle.std.proofs.lemmas.Grind.{flat_map-append}
use Rattle.std.proofs.lemmas.List.{append-nil, length-append, nil_from_length, take-append-drop}
use Rattle.std.proofs.lemmas.List.Folds.{list_any-append}
use Rattle.std.specs.List.{AllByRecursion, list_all}
use Rattle.std.specs.Prelude.{◌==◌}
use Rattle.std.specs.Vec.{vec_capacity, vec_len}
use Rattle.std.specs.declared.vec.Vec.{Vec}
use Rattle.model.proofs.Elements.{all-append, all-back, all-front, all-pass}
use Rattle.versions.proofs.Listings.{part-trans, all-collected-part, left-part}
use Rattle.versions.specs.Chains.{Chains, ChainsValue, IsKept}
use Rattle.versions.specs.Groups.{Listed}
use Rattle.versions.specs.Listings.{is_seen_from, AreSeenFrom, is_of, IsCollected, IsPartReclaimed, AreKept}
use Rattle.versions.specs.Listings.{spare_in, versions_in}
use Rattle.versions.specs.Reclaiming.{DropsUnseen, ReclaimsChains}
use Rattle.versions.specs.Pins.{IsUnderPin}

-- ---- lists, one after the other

pub in-append : {Z : Type 0} (xs ys : List (Vec Listed Z)) → versions_in (xs ++ ys) ≡ versions_in xs ++ versions_in ys
in-append xs ys = flat_map-append (λ x. x.items) xs ys

-- where each list is empty, there is no version
pub in-empty : {Z : Type 0} (xs : List (Vec Listed Z)) → list_all (λ x. vec_len x == 0) xs ≡ true → versions_in xs ≡ []
in-empty [] t = refl
in-empty (x ∷ xs) t =
    let q = and_parts (vec_len x == 0) _ t in
    ap (λ l. l ++ versions_in xs) (nil_from_length x.items (sym x.ok.0 ∙ eqb-true _ _ q.0)) ∙ in-empty xs q.1

-- where not each list is empty, there is one
pub in-some : {Z : Type 0} (xs : List (Vec Listed Z)) → list_all (λ x. vec_len x == 0) xs ≡ false → 0 < length (versions_in xs)
in-some [] f = absurd (both_ways _ f refl)
in-some (x ∷ xs) f = let long = x.ok.0 in grind (arith, nat_tests, in-some xs, length-append x.items (versions_in xs))

-- each version of each list is seen
pub in-seen : {Z : Type 0} (n : ℕ) (xs : List (Vec Listed Z)) → list_all (λ x. list_all (is_seen_from n) x.items) xs ≡ true → AreSeenFrom n (versions_in xs)
in-seen n [] t = tt
in-seen n (x ∷ xs) t =
    let q = and_parts (list_all (is_seen_from n) x.items) _ t in
    let first = all-pass (is_seen_from n) x.items q.0 in
    all-append (λ v. is_seen_from n v ≡ true) x.items (versions_in xs) first (in-seen n xs q.1)

-- ---- the loop

-- the versions of `done` were looked at, and those of `rest` are left
pub record Collected (bs : List ℕ) (old now : Chains) (os done rest : List Listed) : Type 0 where
  pub part : IsPartReclaimed bs old now
  pub kept : (last : ℕ) → IsKept old last → IsKept now last
  pub collected : AllByRecursion (IsCollected bs now) done
  pub left_out : AreKept os (done ++ rest) now
  pub seen : (n : ℕ) → AreSeenFrom n os → AreSeenFrom n (done ++ rest)
  pub each : (active : ℕ → Bool) (v : ChainsValue) (w : ℕ) → AllByRecursion (IsUnderPin active v w) os → AllByRecursion (IsUnderPin active v w) (done ++ rest)

-- where each of the versions `us` and of `rest` is such, so is each of `vs` and of `rest`
all-replaced : (P : Listed → Type 0) (done us vs rest : List Listed) → (AllByRecursion P us → AllByRecursion P vs) → AllByRecursion P (done ++ (us ++ rest))
    → AllByRecursion P (done ++ vs ++ rest)
all-replaced P done us vs rest f all =
    let behind = all-back P done (us ++ rest) all in
    all-append P (done ++ vs) rest (all-append P done vs (all-front P done (us ++ rest) all) (f (all-front P us rest behind))) (all-back P us rest behind)

-- the versions of the first lists, and of the others
pub in-parts : {Z : Type 0} (n : ℕ) (xs front rest : List (Vec Listed Z)) → front ≡ take n xs → rest ≡ drop n xs
    → versions_in xs ≡ versions_in front ++ versions_in rest
in-parts n xs front rest first others =
    sym (ap versions_in (take-append-drop n xs)) ∙ in-append (take n xs) (drop n xs) ∙ λ i. versions_in (sym first i) ++ versions_in (sym others i)

-- the first of the lists was looked at, and what is left of it was put behind the others
pub collected-list : {Z : Type 0} (bs : List ℕ) (old now new : Chains) (os : List Listed) (ls hs lists first left rest : List (Vec Listed Z)) (last : ℕ)
    → IsKept old last → first ≡ take 1 lists → rest ≡ drop 1 lists
    → versions_in hs ≡ versions_in ls ++ versions_in left → ReclaimsChains bs now new
    → DropsUnseen bs new (versions_in first) (versions_in left)
    → Collected bs old now os (versions_in ls) (versions_in lists) → Collected bs old new os (versions_in hs) (versions_in rest)
collected-list bs old now new os ls hs lists first left rest last ordered one others is p drops s =
    let done = versions_in ls in
    let us = versions_in first in
    let vs = versions_in left in
    let more = versions_in rest in
    let before = subst (Collected bs old now os done) (in-parts 1 lists first rest one others) s in
    subst (λ l. Collected bs old new os l more) (sym is) (record {
      part = part-trans bs old now new last ordered before.part p.part;
      kept = λ n h. p.kept n (before.kept n h);
      collected = all-append (IsCollected bs new) done vs (all-collected-part bs now new p.part done before.collected) drops.collected;
      left_out = λ k n high t. grind (
        arith,
        left-part bs now new os (done ++ (us ++ more)) p.part before.left_out k n high t,
        drops.left k n high,
        list_any-append (is_of k n high),
      );
      seen = λ n h. all-replaced (λ v. is_seen_from n v ≡ true) done us vs more (drops.seen n) (before.seen n h);
      each = λ active v w h. all-replaced (IsUnderPin active v w) done us vs more (drops.each active v w) (before.each active v w h);
    })

pub in-none : {Z : Type 0} (done : List Listed) (xs : List (Vec Listed Z)) → length xs ≡ 0 → done ++ versions_in xs ≡ done
in-none done xs none = ap (λ l. done ++ versions_in l) (nil_from_length xs none) ∙ append-nil done

-- ---- the first list, behind a reference

-- the versions of one list
pub in-one : {Z : Type 0} (xs : List (Vec Listed Z)) (x : Vec Listed Z) → length xs ≡ 1 → x ≡ get_or xs 0 x → versions_in xs ≡ x.items
in-one (y ∷ []) x one is = append-nil y.items ∙ ap (λ (v : Vec Listed _). v.items) (sym is)
in-one _ x one is = absurd (omega (arith, one))

pub in-only : {Z : Type 0} (xs : List (Vec Listed Z)) (x : Vec Listed Z) → length xs ≡ 1 → versions_in (set xs 0 x) ≡ x.items
in-only (y ∷ []) x one = append-nil x.items
in-only _ x one = absurd (omega (arith, one))

empty-both : (xs ys : List Listed) → xs ++ ys ≡ [] → (xs ≡ []) × (ys ≡ [])
empty-both [] ys e = (refl, e)
empty-both (x ∷ xs) ys e = cc

-- the first of the lists of no versions
pub in-first : {Z : Type 0} (xs : List (Vec Listed Z)) (x : Vec Listed Z) → versions_in xs ≡ [] → 0 < length xs → x ≡ get_or xs 0 x → x.items ≡ []
in-first [] x none some is = absurd (omega arith)
in-first (y ∷ xs) x none some is = ap (λ (v : Vec Listed _). v.items) is ∙ (empty-both y.items (versions_in xs) none).0

-- its room is what can be listed
pub spare-first : {Z : Type 0} (xs : List (Vec Listed Z)) (x : Vec Listed Z) → 0 < length xs → x ≡ get_or xs 0 x → spare_in xs ≤ vec_capacity x
spare-first [] x some is = absurd (omega arith)
spare-first (y ∷ xs) x some is = (let room = ap (λ (v : Vec Listed _). vec_capacity v) is in omega arith)

-- another list in its place
pub in-filled : {Z : Type 0} (xs : List (Vec Listed Z)) (x : Vec Listed Z) → versions_in xs ≡ [] → 0 < length xs → versions_in (set xs 0 x) ≡ x.items
in-filled [] x none some = absurd (omega arith)
in-filled (y ∷ xs) x none some = ap (λ l. x.items ++ l) (empty-both y.items (versions_in xs) none).1 ∙ append-nil x.items
