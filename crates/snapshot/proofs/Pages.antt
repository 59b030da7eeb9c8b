-- The first pairs of a range, and the last of their keys.
use Rattle.std.proofs.Common.{◌≡◌, ℕ, zero, suc, ◌+◌, ◌<◌, ◌≤◌, Bool, true, false, cond, List, [], ◌∷◌, length, take}
use Rattle.std.proofs.Common.{drop, Option, Some, None, refl, sym, ap, subst, ◌∙◌, arith, add-one, eqb}
use Rattle.std.proofs.lemmas.Bool.{and_parts, eqb-true}
use Rattle.std.proofs.lemmas.Grind.{common_steps}
use Rattle.std.proofs.lemmas.List.{take_all}
use Rattle.std.specs.Cmp.Lexicographic.{slice_cmp}
use Rattle.std.specs.FinMap.Entries.{where_key}
use Rattle.std.specs.List.{AllByRecursion}
use Rattle.std.specs.Ordering.{is_le, nat_cmp}
use Rattle.model.specs.Key.{IsKey, IsValue}
use Rattle.model.specs.KeyBytes.{key_bytes, end_bytes}
use Rattle.model.specs.Map.{Bytes, KeyMap, KeyWrite, IsInBounds, key_cmp, is_in_range, is_below, pairs_in_range}
use Rattle.model.specs.PrivateCopy.{last_key, page_end}
use Rattle.model.specs.declared.ranges.RangeRef.{RangeRef}
use Rattle.snapshot.specs.Merged.{with_pair, merged_one, merged, all_rows, rows_of}
use Rattle.snapshot.specs.View.{View}

-- ---- one pair after another

-- what one more of the pairs adds to the first n
pub record OneMore (all : KeyMap) (n : ℕ) (e : Bytes × Bytes) (rest : KeyMap) : Type 0 where
  pub left : drop n all ≡ rest
  pub within : n ≤ length all
  pub last : last_key (take n all) ≡ Some e.0

one_suc : (all : KeyMap) (n : ℕ) (e : Bytes × Bytes) (rest : KeyMap) → drop n all ≡ e ∷ rest → OneMore all (suc n) e rest
one_suc [] zero e rest h = let no : ◌≡◌ {A = KeyMap} [] (e ∷ rest) = h in cc
one_suc [] (suc n) e rest h = let no : ◌≡◌ {A = KeyMap} [] (e ∷ rest) = h in cc
one_suc (x ∷ xs) zero e rest h = record { left = cc; within = omega arith; last = cc }
one_suc (x ∷ []) (suc n) e rest h = let inner = one_suc [] n e rest h in absurd (omega (arith, inner.within))
one_suc (x ∷ y ∷ ys) (suc n) e rest h = grind (arith, common_steps, one_suc (y ∷ ys) n e rest h)

pub one_more : (all : KeyMap) (n : ℕ) (e : Bytes × Bytes) (rest : KeyMap) → drop n all ≡ e ∷ rest → OneMore all (n + 1) e rest
one_more all n e rest h = rw add-one (one_suc all n e rest h)

-- with one more that is in bounds, the first are
in_bounds_suc : (all : KeyMap) (n : ℕ) (e : Bytes × Bytes) (rest : KeyMap) → drop n all ≡ e ∷ rest → IsKey e.0 → IsValue e.1 → IsInBounds (take n all)
    → IsInBounds (take (suc n) all)
in_bounds_suc [] n e rest h key value b = tt
in_bounds_suc (x ∷ xs) zero e rest h key value b = let same : x ≡ e =
    cc in subst (λ (p : Bytes × Bytes). IsKey p.0 × IsValue p.1 × Unit {0}) (sym same) (key, value, tt)
in_bounds_suc (x ∷ xs) (suc n) e rest h key value b = (b.0, b.1, in_bounds_suc xs n e rest h key value b.2)

pub one_more_in_bounds : (all : KeyMap) (n : ℕ) (e : Bytes × Bytes) (rest : KeyMap) → drop n all ≡ e ∷ rest → IsKey e.0 → IsValue e.1 → IsInBounds (take n all)
    → IsInBounds (take (n + 1) all)
one_more_in_bounds all n e rest h key value b = rw add-one (in_bounds_suc all n e rest h key value b)

-- where none is left, all are among the first n
pub none_left : (all : KeyMap) (n : ℕ) → drop n all ≡ [] → length all ≤ n
none_left [] n h = omega arith
none_left (x ∷ xs) zero h = let no : ◌≡◌ {A = KeyMap} (x ∷ xs) [] = h in cc
none_left (x ∷ xs) (suc n) h = let inner = none_left xs n h in omega (arith, inner)

pub taken_length : (n : ℕ) (xs : KeyMap) → take (length (take n xs)) xs ≡ take n xs
taken_length (suc n) (x ∷ xs) = ap (λ l. x ∷ l) (taken_length n xs)
taken_length n xs = refl

pub taken_within : (n : ℕ) (xs : KeyMap) → length (take n xs) ≤ length xs
taken_within (suc n) (x ∷ xs) = let inner = taken_within n xs in omega (arith, inner)
taken_within n xs = omega arith

pub taken_few : (n : ℕ) (xs : KeyMap) → length (take n xs) ≤ n
taken_few (suc n) (x ∷ xs) = let inner = taken_few n xs in omega (arith, inner)
taken_few n xs = omega arith

-- where none is left behind the first n, no more are taken
pub taken_same : (n limit : ℕ) (xs : KeyMap) → drop n xs ≡ [] → n ≤ limit → take limit xs ≡ take n xs
taken_same zero zero xs h le = refl
taken_same zero (suc limit) [] h le = refl
taken_same zero (suc limit) (x ∷ xs) h le = let no : ◌≡◌ {A = KeyMap} (x ∷ xs) [] = h in cc
taken_same (suc n) zero xs h le = absurd (omega arith)
taken_same (suc n) (suc limit) [] h le = refl
taken_same (suc n) (suc limit) (x ∷ xs) h le = ap (λ l. x ∷ l) (taken_same n limit xs h (omega arith))

-- ---- the keys of a range's pairs lie in it

abbrev HaveKeys : (Bytes → Bool) → KeyMap → Type 0
HaveKeys p es = AllByRecursion (λ e. p e.0 ≡ true) es

module _ (p : Bytes → Bool) where
  keys_where : {V : Type 0} (es : List (Bytes × V)) → AllByRecursion (λ e. p e.0 ≡ true) (where_key (slice_cmp nat_cmp) p es)
  keys_where [] = tt
  keys_where {V} (e ∷ es) = grind (arith, common_steps, keys_where es)

  keys-with_value : (k : Bytes) (v : Option Bytes) (es : KeyMap) → p k ≡ true → HaveKeys p es → HaveKeys p (with_pair k v es)
  keys-with_value k None es h g = g
  keys-with_value k (Some v) es h g = (h, g)

  keys-merged_one : (w : KeyWrite) (f : KeyMap → KeyMap) → p w.0 ≡ true → ((es : KeyMap) → HaveKeys p es → HaveKeys p (f es)) → (es : KeyMap) → HaveKeys p es
      → HaveKeys p (merged_one w f es)
  keys-merged_one w f h keeps [] g = keys-with_value w.0 w.1 (f []) h (keeps [] tt)
  keys-merged_one w f h keeps (e ∷ es) g = grind (arith, common_steps, keys-with_value, keys-merged_one w f h keeps es g.1)

  keys-merged : (ws : List KeyWrite) (es : KeyMap) → AllByRecursion (λ w. p w.0 ≡ true) ws → HaveKeys p es → HaveKeys p (merged ws es)
  keys-merged [] es h g = g
  keys-merged (w ∷ ws) es h g = keys-merged_one w (merged ws) h.0 (λ fs k. keys-merged ws fs h.1 k) es g

  keys-taken : (n : ℕ) (es : KeyMap) → HaveKeys p es → HaveKeys p (take n es)
  keys-taken (suc n) (e ∷ es) h = (h.0, keys-taken n es h.1)
  keys-taken n es h = tt

  last_has : (es : KeyMap) (k : Bytes) → HaveKeys p es → last_key es ≡ Some k → p k ≡ true
  last_has [] k h e = cc
  last_has (x ∷ []) k h e = let same : x.0 ≡ k = cc in ap p (sym same) ∙ h.0
  last_has (x ∷ y ∷ es) k h e = last_has (y ∷ es) k h.1 e

-- so the end of a page isn't below the range's lower end
pub end_above : (t : View) (m : KeyMap) (r : RangeRef) (limit : ℕ) (k : Bytes) → page_end limit (rows_of t m r limit) ≡ Some k
    → is_le (key_cmp (key_bytes r.lo) k) ≡ true
end_above t m r limit k e =
    let p = is_in_range (key_bytes r.lo) (end_bytes r.hi) in
    let keys = keys-taken p limit (all_rows t m r)
    (keys-merged p (where_key (slice_cmp nat_cmp) p t.writes) (pairs_in_range m (key_bytes r.lo) (end_bytes r.hi)) (keys_where p t.writes) (keys_where p m))
    in
    (and_parts (is_le (key_cmp (key_bytes r.lo) k)) (is_below k (end_bytes r.hi))
    (last_has p (rows_of t m r limit) k keys (full (eqb (length (rows_of t m r limit)) limit) e))).0
  where
    full : (b : Bool) → cond b (last_key (rows_of t m r limit)) None ≡ Some k → last_key (rows_of t m r limit) ≡ Some k
    full true h = h
    full false h = let no : ◌≡◌ {A = Option Bytes} None (Some k) = h in cc

-- a page that is not full has all pairs, and none may follow
pub record IsShort (n limit : ℕ) (all : KeyMap) : Type 0 where
  pub many : n ≡ length (take limit all)
  pub ends : None ≡ page_end limit (take limit all)

pub short_page : (n limit : ℕ) (all : KeyMap) → drop n all ≡ [] → n ≤ length all → n < limit → IsShort n limit all
short_page n limit all none within less = grind (arith, common_steps, none_left, take_all, eqb-true)
