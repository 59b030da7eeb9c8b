-- Steps by falling key, as they stand in their block.
use Rattle.std.proofs.Common.{◌≡◌, ◌≤◌, ◌<◌, ◌+◌, ◌-◌, ℕ, cond, not, true, false, List, [], ◌∷◌, ◌++◌, length}
use Rattle.std.proofs.Common.{get_or, map, refl, sym, ap, ◌∙◌, Option, None, Some, arith}
use Rattle.std.proofs.lemmas.List.{get_or-reverse, length-reverse, map-append, reverse-append}
use Rattle.std.specs.List.Sorted.{IsPartitionedBy, IsPartitionPoint}
use Rattle.std.specs.Option.{option_to_list}
use Rattle.std.specs.Ordering.{is_eq, is_gt, is_le}
use Rattle.std.specs.Prelude.{reverse}
use Rattle.std.specs.declared.cmp.Ordering.{Ordering}
use Rattle.std.specs.declared.cmp.Ordering.TheVariants.{Less, Equal, Greater}
use Rattle.model.specs.Map.{Bytes, key_cmp}
use Rattle.last_readers.proofs.StepLaws.{IsEnd, found, found_none, parted}
use Rattle.last_readers.specs.Steps.{IsLast, StepValue, number_from, steps_rise}

-- ---- their ends

-- the first is the last by rising key
pub first_is_last : (fs : List StepValue) (w : StepValue) → 0 < length fs → w ≡ get_or fs 0 w → IsLast w (reverse fs)
first_is_last [] w some is = absurd (omega arith)
first_is_last (f ∷ fs) w some is = (reverse fs, reverse-append (f ∷ []) fs ∙ ap (λ (s : StepValue). reverse fs ++ s ∷ []) (sym is))

one_alone : (o : Option StepValue) → reverse (option_to_list o) ≡ option_to_list o
one_alone None = refl
one_alone (Some s) = refl

pub first_taken : (o : Option StepValue) (was now : List StepValue) → was ≡ option_to_list o ++ now → reverse was ≡ reverse now ++ option_to_list o
first_taken o was now is = ap reverse is ∙ reverse-append (option_to_list o) now ∙ ap (λ l. reverse now ++ l) (one_alone o)

pub last_taken : (o : Option StepValue) (was now : List StepValue) → was ≡ now ++ option_to_list o → reverse was ≡ option_to_list o ++ reverse now
last_taken o was now is = ap reverse is ∙ reverse-append now (option_to_list o) ∙ ap (λ l. l ++ reverse now) (one_alone o)

-- ---- each of them

pub reverse_map : (f : StepValue → StepValue) (ss : List StepValue) → reverse (map f ss) ≡ map f (reverse ss)
reverse_map f [] = refl
reverse_map f (s ∷ ss) =
    reverse-append (f s ∷ []) (map f ss) ∙ ap (λ l. l ++ f s ∷ []) (reverse_map f ss) ∙ sym (map-append f (reverse ss) (s ∷ []))
    ∙ ap (map f) (sym (reverse-append (s ∷ []) ss))

-- by rising key it stands as far from the other end
pub at_turned : (fs : List StepValue) (i : ℕ) (d : StepValue) → i < length fs → get_or fs i d ≡ get_or (reverse fs) (length fs - 1 - i) d
at_turned fs i d lt =
    let back : length fs - 1 - (length fs - 1 - i) ≡ i = omega arith in
    sym (get_or-reverse fs (length fs - 1 - i) d (omega arith) ∙ ap (λ n. get_or fs n d) back)

-- ---- the binary search

not_above : (o : Ordering) → is_gt o ≡ not (is_le o)
not_above Less = refl
not_above Equal = refl
not_above Greater = refl

-- those above a key stand before the others
pub parted_falling : (k : Bytes) (fs : List StepValue) → steps_rise (reverse fs) ≡ true → IsPartitionedBy (λ s. is_gt (key_cmp s.key k)) fs
parted_falling k fs rise i j d le lt e =
    let n = length fs in
    let up = parted k (reverse fs) rise (n - 1 - j) (n - 1 - i) d (omega arith) (omega (arith, length-reverse fs)) in
    let at = at_turned fs i d (omega arith) in
    let behind = at_turned fs j d (omega arith) in
    grind (arith, up, at, behind, not_above (key_cmp (get_or fs i d).key k), not_above (key_cmp (get_or fs j d).key k))

abbrev pub IsEndFalling : Bytes → List StepValue → ℕ → Type 0
IsEndFalling k fs n = IsPartitionPoint (λ s. is_gt (key_cmp s.key k) ≡ true) (λ s. is_gt (key_cmp s.key k) ≡ false) fs n

-- where those above the key end by falling key, those that aren't above it end by rising key
pub end_turned : (k : Bytes) (fs : List StepValue) (n m : ℕ) → n ≤ length fs → m ≡ length fs - n → IsEndFalling k fs n → IsEnd k (reverse fs) m
end_turned k fs n m le is h =
    let l = length fs in (
      λ i d low lt.
          let at = get_or-reverse fs i d (omega arith) in
          let not = h.1 (l - 1 - i) d (omega arith) (omega arith) in
          grind (arith, at, not, not_above (key_cmp (get_or (reverse fs) i d).key k)),
      λ i d low lt.
          let at = get_or-reverse fs i d (omega (arith, length-reverse fs)) in
          let above = h.0 (l - 1 - i) d (omega arith) (omega (arith, length-reverse fs)) in
          grind (arith, at, above, not_above (key_cmp (get_or (reverse fs) i d).key k)),
    )

-- no step is at the key or below it
pub found_none_falling : (b : ℕ) (k : Bytes) (fs : List StepValue) (n : ℕ) → n ≡ length fs → IsEndFalling k fs n → number_from b (reverse fs) k ≡ b
found_none_falling b k fs n all h = found_none b k (reverse fs) (end_turned k fs n 0 (omega arith) (omega arith) h)

-- the first step that isn't above the key decides
pub found_falling : (b : ℕ) (k : Bytes) (fs : List StepValue) (n : ℕ) (w : StepValue) → n < length fs → w ≡ get_or fs n w → steps_rise (reverse fs) ≡ true
    → IsEndFalling k fs n → cond (is_eq (key_cmp w.key k)) w.at w.above ≡ number_from b (reverse fs) k
found_falling b k fs n w lt is rise h =
    let i = length fs - 1 - n in
    found b k (reverse fs) i w (omega (arith, length-reverse fs)) (is ∙ at_turned fs n w lt) rise (end_turned k fs n (i + 1) (omega arith) (omega arith) h)
