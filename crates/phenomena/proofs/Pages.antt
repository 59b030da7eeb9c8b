-- The first pairs of a range: what they have at a key, and that the mark of the reply covers the keys that they show.
use Rattle.std.proofs.Common.{not, lt-ltb, ltb-true, ◌≡◌, ℕ, zero, suc, Bool, true, false, cond, ◌||◌, [], ◌∷◌}
use Rattle.std.proofs.Common.{Option, Some, None, refl, sym, ap, ◌∙◌, length, take, arith, inl, inr, nat_lt, is_le}
use Rattle.std.proofs.Common.{is_lt, is_eq, Less, Equal, Greater, Ordering, nat_cmp}
use Rattle.std.proofs.lemmas.Bool.{both_ways, or_cases, or_left, or_right, and_parts, and_from}
use Rattle.std.proofs.lemmas.Bool.Decides.{nat_tests}
use Rattle.std.proofs.lemmas.Grind.{common_steps}
use Rattle.std.specs.Cmp.Lexicographic.{slice_cmp, nat_list_cmp_total}
use Rattle.std.specs.FinMap.Entries.{below_all, is_sorted-where_key}
use Rattle.std.specs.List.{list_any}
use Rattle.model.proofs.InOrder.{parts, find_none, below_later, sorted_take, less}
use Rattle.model.proofs.KeyOrder.{le_of_lt, lt_trans, same_keys}
use Rattle.model.proofs.Lookups.{value_in_range}
use Rattle.model.specs.Map.{Bytes, KeyMap, IsMap, key_cmp, value_at, is_in_range, is_empty_range, pairs_in_range}
use Rattle.model.specs.Map.{is_below}
use Rattle.model.specs.PrivateCopy.{covers, last_key, page_end, mark_up_to, mark_of_reply}

-- a pair stands at the key or above it
abbrev pub reaches : Bytes → KeyMap → Bool
reaches k all = list_any (λ p. is_le (key_cmp k p.0)) all

-- all pairs were given, or one at the key or above it
abbrev pub shows : ℕ → Bytes → KeyMap → Bool
shows limit k all = nat_lt (length all) limit || reaches k all

-- a key below the first has no value
none_below : (e : Bytes × Bytes) (es : KeyMap) (k : Bytes) → IsMap (e ∷ es) → key_cmp k e.0 ≡ Less → value_at es k ≡ None
none_below e es k h low = find_none (slice_cmp nat_cmp) k es (below_later nat_list_cmp_total k e.0 es low (parts (below_all (slice_cmp nat_cmp) e.0 es) _ h).0)

tail_is : (e : Bytes × Bytes) (es : KeyMap) → IsMap (e ∷ es) → IsMap es
tail_is e es h = (parts (below_all (slice_cmp nat_cmp) e.0 es) _ h).1

pub take_is : (n : ℕ) (es : KeyMap) → IsMap es → IsMap (take n es)
take_is n es h = sorted_take (slice_cmp nat_cmp) n es h

-- a ≤ b < c
le_lt : (a b c : Bytes) → is_le (key_cmp a b) ≡ true → is_lt (key_cmp b c) ≡ true → is_lt (key_cmp a c) ≡ true
le_lt a b c h g = grind (arith, common_steps, lt_trans a b c, same_keys a b)

take_nothing : (n : ℕ) → take {A = Bytes × Bytes} n [] ≡ []
take_nothing zero = refl
take_nothing (suc n) = refl

-- a pair before others, of which the first n are shown
one_more : (n : ℕ) (e : Bytes × Bytes) (es : KeyMap) (k : Bytes) → IsMap (e ∷ es) → (shows n k (take n es) ≡ true → value_at (take n es) k ≡ value_at es k) →
    shows (suc n) k (e ∷ take n es) ≡ true → (o : Ordering) → key_cmp k e.0 ≡ o → value_at (e ∷ take n es) k ≡ value_at (e ∷ es) k
one_more n e es k h rest s Equal c = grind (arith, common_steps)
one_more n e es k h rest s Less c =
    let left = none_below e (take n es) k (take_is (suc n) (e ∷ es) h) c in
    let right = none_below e es k h c in
    grind (arith, common_steps)
one_more n e es k h rest s Greater c =
    let shown : shows n k (take n es) ≡ true = elim (or_cases (nat_lt (suc (length (take n es))) (suc n)) (reaches k (e ∷ take n es)) s) [
      | inl less ↦ or_left _ _ (lt-ltb (length (take n es)) n (let lt = ltb-true (suc (length (take n es))) (suc n) less in omega arith))
      | inr some ↦ or_right (nat_lt (length (take n es)) n) _ (above (reaches k (take n es)) some)
    ] in
    ap (λ o. cond (is_eq o) (Some e.1) (value_at (take n es) k)) c ∙ rest shown ∙ sym (ap (λ o. cond (is_eq o) (Some e.1) (value_at es k)) c)
  where
    above : (b : Bool) → (is_le (key_cmp k e.0) || b) ≡ true → b ≡ true
    above b some = ap (λ o. is_le o || b) (sym c) ∙ some

page_value : (n : ℕ) (es : KeyMap) (k : Bytes) → IsMap es → shows n k (take n es) ≡ true → value_at (take n es) k ≡ value_at es k
page_value n [] k h s = ap (λ m. value_at m k) (take_nothing n)
page_value zero (e ∷ es) k h s = grind (arith, nat_tests)
page_value (suc n) (e ∷ es) k h s = one_more n e es k h (page_value n es k (tail_is e es h)) s (key_cmp k e.0) refl

pub range_value : (c : KeyMap) (lo : Bytes) (hi : Option Bytes) (limit : ℕ) (k : Bytes) → IsMap c → is_in_range lo hi k ≡ true →
    shows limit k (take limit (pairs_in_range c lo hi)) ≡ true → value_at (take limit (pairs_in_range c lo hi)) k ≡ value_at c k
range_value c lo hi limit k h inside s =
    page_value limit (pairs_in_range c lo hi) k (is_sorted-where_key (slice_cmp nat_cmp) (is_in_range lo hi) c h) s
    ∙ value_in_range c lo hi k ∙ ap (λ b. cond b (value_at c k) None) inside

up_to_last : (all : KeyMap) (l k : Bytes) → IsMap all → last_key all ≡ Some l → reaches k all ≡ true → is_le (key_cmp k l) ≡ true
up_to_last [] l k h last r = cc
up_to_last (e ∷ []) l k h last r = let same : e.0 ≡ l = cc in grind (arith, common_steps, or_cases)
up_to_last (e ∷ f ∷ es) l k h last r =
    let rise : key_cmp e.0 f.0 ≡ Less = less _ (parts _ _ (parts (below_all (slice_cmp nat_cmp) e.0 (f ∷ es)) _ h).0).0 in
    up_to_last (f ∷ es) l k (tail_is e (f ∷ es) h) last (elim (or_cases (is_le (key_cmp k e.0)) (reaches k (f ∷ es)) r) [
      | inl first ↦ or_left _ (reaches k es) (below e.0 f.0 first rise)
      | inr later ↦ later
    ])
  where
    below : (j i : Bytes) → is_le (key_cmp k j) ≡ true → key_cmp j i ≡ Less → is_le (key_cmp k i) ≡ true
    below j i le lt = le_of_lt k i (le_lt k j i le (ap is_lt lt))

pub page_covers : (lo : Bytes) (hi : Option Bytes) (limit : ℕ) (all : KeyMap) (k : Bytes) → IsMap all → is_in_range lo hi k ≡ true →
    shows limit k all ≡ true → covers (mark_of_reply lo hi limit all) k ≡ true
page_covers lo hi limit all k h inside s = by (page_end limit all) refl
  where
    by : (o : Option Bytes) → page_end limit all ≡ o → covers (mark_up_to lo hi o) k ≡ true
    by None e = inside
    by (Some l) e =
        let full : (nat_lt (length all) limit ≡ false) × (last_key all ≡ Some l) = grind (arith, nat_tests) in
        let some : reaches k all ≡ true =
        elim (or_cases (nat_lt (length all) limit) (reaches k all) s) [ inl less ↦ absurd (both_ways _ full.0 less) | inr r ↦ r ] in
        and_from _ _ (and_parts (is_le (key_cmp lo k)) (is_below k hi) inside).0 (up_to_last all l k h full.1 some)

-- a range that holds a key is not empty
pub not_empty : (lo : Bytes) (hi : Option Bytes) (k : Bytes) → is_in_range lo hi k ≡ true → is_empty_range lo hi ≡ false
not_empty lo None k inside = refl
not_empty lo (Some hi) k inside = let p = and_parts (is_le (key_cmp lo k)) (is_lt (key_cmp k hi)) inside in ap not (le_lt lo k hi p.0 p.1)
