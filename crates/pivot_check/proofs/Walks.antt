-- Which postings a mark covers, and walks over marks and runs.
use Rattle.std.proofs.Common.{◌≡◌, ◌≤◌, ◌<◌, ◌+◌, ℕ, zero, suc, Bool, true, false, ◌&&◌, ◌||◌, List, [], ◌∷◌, Some}
use Rattle.std.proofs.Common.{None, length, length-drop, get_or, take, drop, refl, sym, ap, ◌∙◌, arith, not}
use Rattle.std.proofs.lemmas.Bool.{both_ways, and_parts, and_from, not-true, true_from_ne_false}
use Rattle.std.proofs.lemmas.Grind.{common_steps}
use Rattle.std.proofs.lemmas.List.{take-append-drop, get_or-drop, get_or-take, length-take}
use Rattle.std.proofs.lemmas.List.Elements.{recursion_from_All}
use Rattle.std.proofs.lemmas.List.Folds.{list_all-append}
use Rattle.std.specs.List.{list_all, AllByRecursion}
use Rattle.std.specs.List.Sorted.{IsPartitionPoint, IsPartitionedBy}
use Rattle.std.specs.Ordering.{is_lt, is_le}
use Rattle.std.specs.Prelude.{slice_get, ◌++◌}
use Rattle.model.proofs.Elements.{all-each, all-get, all-pass}
use Rattle.model.proofs.KeyOrder.{itself, less, less_trans, same_keys}
use Rattle.model.specs.Map.{Bytes, key_cmp}
use Rattle.model.specs.PrivateCopy.{Mark, covers}
use Rattle.marks.specs.Marked.{start_of}
use Rattle.pivot_check.proofs.Intervals.{covers_below, covers_above}
use Rattle.pivot_check.specs.Agreeing.{lesser_none, least-append}
use Rattle.pivot_check.specs.Postings.{HaveKeysBelow, Posting, keys_rise, have_keys_from, least, lesser}

-- ---- the order of keys

pub le_trans : (a b k : Bytes) → is_le (key_cmp a b) ≡ true → is_le (key_cmp b k) ≡ true → is_le (key_cmp a k) ≡ true
le_trans a b k h g = grind (arith, common_steps, less_trans a b k, same_keys a b, same_keys b k)

from_le : (a b low : Bytes) → is_le (key_cmp a b) ≡ true → is_lt (key_cmp b low) ≡ true → is_lt (key_cmp a low) ≡ true
from_le a b low le lt = grind (arith, common_steps, less_trans a b low, same_keys a b)

-- of two postings the later has no lower key
rise_at : (ps : List Posting) → keys_rise ps ≡ true → (i j : ℕ) (d : Posting) → i ≤ j → j < length ps
    → is_le (key_cmp (get_or ps i d).key (get_or ps j d).key) ≡ true
rise_at (p ∷ ps) h zero zero d le lt = ap is_le (itself p.key)
rise_at (p ∷ ps) h zero (suc j) d le lt =
    all-get (λ q. is_le (key_cmp p.key q.key) ≡ true) ps j d (omega arith) (all-pass (λ q. is_le (key_cmp p.key q.key)) ps (and_parts _ _ h).0)
rise_at (p ∷ ps) h (suc i) (suc j) d le lt = rise_at ps (and_parts _ _ h).1 i j d (omega arith) (omega arith)
rise_at _ h i j d le lt = absurd (omega arith)

pub rest_rises : (ps : List Posting) (i : ℕ) → keys_rise ps ≡ true → keys_rise (drop i ps) ≡ true
rest_rises ps zero h = h
rest_rises [] (suc i) h = refl
rest_rises (p ∷ ps) (suc i) h = rest_rises ps i (and_parts _ _ h).1

-- ---- what a test finds, and where it parts a list

pass-all : (t : Posting → Bool) (ps : List Posting) → AllByRecursion (λ p. t p ≡ true) ps → list_all t ps ≡ true
pass-all t [] h = refl
pass-all t (p ∷ ps) h = and_from _ _ h.0 (pass-all t ps h.1)

-- none passes
least_none : (t c : Posting → Bool) (ps : List Posting) → AllByRecursion (λ p. t p ≡ false) ps → least (λ p. t p && c p) ps ≡ None
least_none t c [] h = refl
least_none t c (p ∷ ps) h = let fails = h.0 in grind (arith, least_none t c ps h.1)

least_all : (t c : Posting → Bool) (ps : List Posting) → AllByRecursion (λ p. t p ≡ true) ps → least (λ p. t p && c p) ps ≡ least c ps
least_all t c [] h = refl
least_all t c (p ∷ ps) h = let passes = h.0 in grind (arith, least_all t c ps h.1)

least_split : (c : Posting → Bool) (i : ℕ) (ps : List Posting) → least c ps ≡ lesser (least c (take i ps)) (least c (drop i ps))
least_split c i ps = ap (least c) (sym (take-append-drop i ps)) ∙ least-append c (take i ps) (drop i ps)

-- a list that a test parts at a place
abbrev pub IsParted : (Posting → Bool) → List Posting → ℕ → Type 0
IsParted t ps i = IsPartitionPoint (λ p. t p ≡ true) (λ p. t p ≡ false) ps i

module _ (t : Posting → Bool) (ps : List Posting) (i : ℕ) (h : IsParted t ps i) where
  pub before : AllByRecursion (λ p. t p ≡ true) (take i ps)
  before = recursion_from_All (λ p. t p ≡ true) (take i ps) (λ k d lt. let len = length-take i ps in ap t (get_or-take i ps k d (omega arith))
      ∙ h.0 k d (omega arith) (omega arith))

  behind : AllByRecursion (λ p. t p ≡ false) (drop i ps)
  behind = recursion_from_All (λ p. t p ≡ false) (drop i ps) (λ k d lt. let len = length-drop i ps in ap t (get_or-drop i ps k d)
      ∙ h.1 (i + k) d (omega arith) (omega arith))

-- ---- the postings that a mark covers

-- none behind one that isn't covered
later_uncovered : (m : Mark) (p q : Posting) → is_le (key_cmp p.key q.key) ≡ true → is_lt (key_cmp p.key (start_of m)) ≡ false → covers m p.key ≡ false
    → covers m q.key ≡ false
later_uncovered m p q le from e = grind (arith, common_steps, covers_above m p.key q.key from e, same_keys p.key q.key)

-- where the first isn't covered, none is
pub first_uncovered : (m : Mark) (c : Posting → Bool) (ps : List Posting) (p : Posting) → Some p ≡ slice_get ps 0 → keys_rise ps ≡ true
    → have_keys_from (start_of m) ps ≡ true → covers m p.key ≡ false → least (λ p. covers m p.key && c p) ps ≡ None
first_uncovered m c [] p is rising from e = refl
first_uncovered m c (q ∷ ps) p is rising from e =
    let first : covers m q.key ≡ false = cc in
    let begins = not-true _ (and_parts _ _ from).0 in
    let later = all-pass (λ x. is_le (key_cmp q.key x.key)) ps (and_parts _ _ rising).0 in
    least_none (λ x. covers m x.key) c (q ∷ ps) (first, all-each _ _ ps (λ x le. later_uncovered m q x le begins first) later)

-- those that are covered stand first
pub parted_covered : (m : Mark) (ps : List Posting) → keys_rise ps ≡ true → have_keys_from (start_of m) ps ≡ true → IsPartitionedBy (λ p. covers m p.key) ps
parted_covered m ps h from i j d le lt e = true_from_ne_false _ (λ f.
    let begins = not-true _ (all-get (λ p. not (is_lt (key_cmp p.key (start_of m)))
    ≡ true) ps i d (omega arith) (all-pass (λ p. not (is_lt (key_cmp p.key (start_of m)))) ps from)) in
    both_ways _ (later_uncovered m (get_or ps i d) (get_or ps j d) (rise_at ps h i j d le lt) begins f) e)

pub covered_first : (m : Mark) (c : Posting → Bool) (ps : List Posting) (i : ℕ)
    → IsPartitionPoint (λ p. covers m p.key ≡ true) (λ p. covers m p.key ≡ false) ps i
    → least (λ p. covers m p.key && c p) ps ≡ least c (take i ps)
covered_first m c ps i h =
    let t = λ (p : Posting). covers m p.key in
    grind (
      arith,
      lesser_none,
      least_split (λ p. covers m p.key && c p) i ps,
      least_none t c (drop i ps) (behind t ps i h),
      least_all t c (take i ps) (before t ps i h),
    )

-- ---- where the walk begins

pub parted : (low : Bytes) (ps : List Posting) → keys_rise ps ≡ true → IsPartitionedBy (λ p. is_lt (key_cmp p.key low)) ps
parted low ps h i j d le lt e = from_le _ _ low (rise_at ps h i j d le lt) e

pub rest_from : (low : Bytes) (ps : List Posting) (i : ℕ)
    → IsPartitionPoint (λ p. is_lt (key_cmp p.key low) ≡ true) (λ p. is_lt (key_cmp p.key low) ≡ false) ps i → have_keys_from low (drop i ps) ≡ true
rest_from low ps i h = pass-all (λ p. not (is_lt (key_cmp p.key low))) (drop i ps)
    (all-each _ _ (drop i ps) (λ p e. ap not e) (behind (λ p. is_lt (key_cmp p.key low)) ps i h))

pub rest_decides : (m : Mark) (c : Posting → Bool) (ps : List Posting) (i : ℕ) → HaveKeysBelow (start_of m) (take i ps)
    → least (λ p. covers m p.key && c p) ps ≡ least (λ p. covers m p.key && c p) (drop i ps)
rest_decides m c ps i below =
    let none = least_none (λ p. covers m p.key) c (take i ps) (all-each _ _ (take i ps) (λ p lt. covers_below m p.key (less _ lt)) below) in
    least_split (λ p. covers m p.key && c p) i ps ∙ ap (λ o. lesser o (least (λ p. covers m p.key && c p) (drop i ps))) none

-- ---- one more posting

-- behind those that are not above it, and before those that it isn't above
pub rise_between : (w : Posting) (ms ys : List Posting) → AllByRecursion (λ m. is_le (key_cmp m.key w.key) ≡ true) ms
    → list_all (λ y. is_le (key_cmp w.key y.key)) ys ≡ true
    → keys_rise (ms ++ ys) ≡ true → keys_rise (ms ++ w ∷ ys) ≡ true
rise_between w [] ys below from h = and_from _ _ from h
rise_between w (m ∷ ms) ys below from h =
    grind (arith, below.0, list_all-append (λ q. is_le (key_cmp m.key q.key)) ms, rise_between w ms ys below.1 from)

-- ---- several marks

pub least-or : (x y w : Posting → Bool) (ps : List Posting)
    → least (λ p. (x p || y p) && w p) ps ≡ lesser (least (λ p. x p && w p) ps) (least (λ p. y p && w p) ps)
least-or x y w [] = refl
least-or x y w (p ∷ ps) = grind (arith, least-or x y w ps)

pub none_asked : (w : Posting → Bool) (ps : List Posting) → least (λ p. false && w p) ps ≡ None
none_asked w [] = refl
none_asked w (p ∷ ps) = none_asked w ps
