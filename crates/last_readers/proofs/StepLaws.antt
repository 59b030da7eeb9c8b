-- Steps by rising key, and the numbers at keys below, between and above them.
use Rattle.std.proofs.Common.{◌≡◌, ◌≤◌, ◌<◌, ℕ, zero, suc, true, false, cond, ◌&&◌, List, [], ◌∷◌, ◌++◌, length}
use Rattle.std.proofs.Common.{get_or, take, drop, map, ◌+◌, refl, sym, ap, ◌∙◌, arith}
use Rattle.std.proofs.lemmas.Bool.{and_parts}
use Rattle.std.proofs.lemmas.Bool.Decides.{nat_tests}
use Rattle.std.proofs.lemmas.List.{take-append-drop, take_more, append-nil, nil_from_length, get_or-drop}
use Rattle.std.proofs.lemmas.List.{length-drop}
use Rattle.std.proofs.lemmas.List.Folds.{list_all-append, list_all-map}
use Rattle.std.proofs.lemmas.List.Sums.{list_all-from_AllPass, AllPass-from_list_all}
use Rattle.std.specs.Cmp.Lexicographic.{nat_list_cmp_total}
use Rattle.std.specs.List.Sorted.{IsPartitionedBy, IsPartitionPoint}
use Rattle.std.specs.Ordering.{is_eq, is_le, is_lt}
use Rattle.std.specs.declared.cmp.Ordering.TheVariants.{Less}
use Rattle.model.proofs.Entries.{turned}
use Rattle.model.proofs.KeyOrder.{less, turned_less, less_trans, lt_trans, lt_le_trans, le_of_lt, lt_of_not_le}
use Rattle.model.specs.Map.{Bytes, key_cmp}
use Rattle.last_readers.specs.Steps.{StepValue, by_order, number_from, number_at, merged_at, end_from, end_of}
use Rattle.last_readers.specs.Steps.{are_over, steps_rise, are_under, in_place_of, renumbered}

-- ---- lists that rise

pub over_both : (x : StepValue) (xs ys : List StepValue) → are_over x.key (xs ++ ys) ≡ (are_over x.key xs && are_over x.key ys)
over_both x xs ys = list_all-append (λ s. is_lt (key_cmp x.key s.key)) xs ys

pub rises_left : (xs ys : List StepValue) → steps_rise (xs ++ ys) ≡ true → steps_rise xs ≡ true
rises_left [] ys h = refl
rises_left (x ∷ xs) ys h = grind (arith, over_both x xs ys, rises_left xs ys)

pub rises_right : (xs ys : List StepValue) → steps_rise (xs ++ ys) ≡ true → steps_rise ys ≡ true
rises_right [] ys h = h
rises_right (x ∷ xs) ys h = rises_right xs ys (and_parts _ _ h).1

-- what holds round one step of a list that rises
pub record Around (xs : List StepValue) (w : StepValue) (ts : List StepValue) : Type 0 where
  pub under : are_under w.key xs ≡ true
  pub over : steps_rise (w ∷ ts) ≡ true
  pub without : steps_rise (xs ++ ts) ≡ true

pub around : (xs : List StepValue) (w : StepValue) (ts : List StepValue) → steps_rise (xs ++ w ∷ ts) ≡ true → Around xs w ts
around [] w ts h = record { under = refl; over = h; without = (and_parts _ _ h).1 }
around (x ∷ xs) w ts h = grind (arith, around xs w ts, over_both x xs)

-- one more step between those below it and those above it
pub put_between : (xs ts : List StepValue) (m : StepValue) → are_under m.key xs ≡ true → steps_rise (m ∷ ts) ≡ true → steps_rise (xs ++ ts) ≡ true
    → steps_rise (xs ++ m ∷ ts) ≡ true
put_between [] ts m under over h = over
put_between (x ∷ xs) ts m under over h = grind (arith, over_both x xs ts, over_both x xs (m ∷ ts), put_between xs ts m)

-- below a lower key
pub over_less : (j k : Bytes) (ss : List StepValue) → key_cmp j k ≡ Less → are_over k ss ≡ true → are_over j ss ≡ true
over_less j k [] h g = refl
over_less j k (s ∷ ss) h g = grind (arith, lt_trans j k s.key (ap is_lt h), over_less j k ss h)

-- below a key that isn't lower
pub under_more : (j k : Bytes) (ss : List StepValue) → is_le (key_cmp j k) ≡ true → are_under j ss ≡ true → are_under k ss ≡ true
under_more j k [] h g = refl
under_more j k (s ∷ ss) h g = grind (arith, lt_le_trans s.key j k, under_more j k ss h)

-- ---- numbers

-- below all steps
pub low : (b : ℕ) (ss : List StepValue) (k : Bytes) → are_over k ss ≡ true → number_from b ss k ≡ b
low b [] k h = refl
low b (s ∷ ss) k h = ap (λ o. by_order o b s.at (number_from s.above ss k)) (less _ (and_parts _ _ h).0)

-- above all steps
pub high : (b : ℕ) (ss : List StepValue) (k : Bytes) → are_under k ss ≡ true → number_from b ss k ≡ end_from b ss
high b [] k h = refl
high b (s ∷ ss) k h = ap (λ o. by_order o b s.at (number_from s.above ss k)) (turned_less s.key k (less _ (and_parts _ _ h).0))
    ∙ high s.above ss k (and_parts _ _ h).1

-- the steps above the key don't matter
front_decides : (b : ℕ) (xs ys : List StepValue) (k : Bytes) → are_over k ys ≡ true → number_from b (xs ++ ys) k ≡ number_from b xs k
front_decides b [] ys k h = low b ys k h
front_decides b (x ∷ xs) ys k h = ap (by_order (key_cmp k x.key) b x.at) (front_decides x.above xs ys k h)

pub end_push : (b : ℕ) (xs : List StepValue) (w : StepValue) → end_from b (xs ++ w ∷ []) ≡ w.above
end_push b [] w = refl
end_push b (x ∷ xs) w = end_push x.above xs w

-- with one more step at the end
pub number_push : (b : ℕ) (xs : List StepValue) (w : StepValue) (k : Bytes) → are_under w.key xs ≡ true
    → number_from b (xs ++ w ∷ []) k ≡ by_order (key_cmp k w.key) (number_from b xs k) w.at w.above
number_push b [] w k h = refl
number_push b (x ∷ xs) w k h =
    grind (arith, number_push x.above xs w k, less (key_cmp x.key w.key), less_trans k x.key w.key, nat_list_cmp_total.congr k x.key w.key)

-- ---- the last step

pub end_is : (xs init : List StepValue) (w : StepValue) → xs ≡ init ++ w ∷ [] → w.above ≡ end_of xs
end_is xs init w is = sym (ap end_of is ∙ end_push 0 init w)

-- of steps that rise the last has the greatest key
pub under_last : (xs init : List StepValue) (w : StepValue) (k : Bytes) → xs ≡ init ++ w ∷ [] → steps_rise xs ≡ true → key_cmp w.key k ≡ Less
    → are_under k xs ≡ true
under_last xs init w k is rise lt =
    let below = under_more w.key k init (ap is_le lt) (around init w [] (ap steps_rise (sym is) ∙ rise)).under in
    grind (arith, ap (are_under k) is, list_all-append (λ s. is_lt (key_cmp s.key k)) init (w ∷ []))

-- ---- the binary search

all_at : (x : StepValue) (ss : List StepValue) (i : ℕ) (d : StepValue) → are_over x.key ss ≡ true → i < length ss
    → is_lt (key_cmp x.key (get_or ss i d).key) ≡ true
all_at x ss i d h lt = AllPass-from_list_all (λ s. is_lt (key_cmp x.key s.key)) ss h i d lt

pub parted : (k : Bytes) (ss : List StepValue) → steps_rise ss ≡ true → IsPartitionedBy (λ s. is_le (key_cmp s.key k)) ss
parted k (s ∷ ss) h zero zero d le lt e = e
parted k (s ∷ ss) h zero (suc j) d le lt e = le_of_lt s.key k (lt_le_trans s.key (get_or ss j d).key k (all_at s ss j d (and_parts _ _ h).0 (omega arith)) e)
parted k (s ∷ ss) h (suc i) (suc j) d le lt e = parted k ss (and_parts _ _ h).1 i j d (omega arith) (omega arith) e
parted k _ h i j d le lt e = absurd (omega arith)

abbrev pub IsEnd : Bytes → List StepValue → ℕ → Type 0
IsEnd k ss i = IsPartitionPoint (λ s. is_le (key_cmp s.key k) ≡ true) (λ s. is_le (key_cmp s.key k) ≡ false) ss i

rest_over : (k : Bytes) (ss : List StepValue) (i : ℕ) → i ≤ length ss → IsEnd k ss i → are_over k (drop i ss) ≡ true
rest_over k ss i le h = list_all-from_AllPass (λ s. is_lt (key_cmp k s.key)) (drop i ss)
    (λ j d lt. rw get_or-drop (lt_of_not_le (get_or ss (i + j) d).key k (h.1 (i + j) d (omega arith) (omega (arith, length-drop i ss)))))

-- no step is at the key or below it
pub found_none : (b : ℕ) (k : Bytes) (ss : List StepValue) → IsEnd k ss 0 → number_from b ss k ≡ b
found_none b k ss h = low b ss k (rest_over k ss 0 (omega arith) h)

-- the last step that isn't above the key decides
pub found : (b : ℕ) (k : Bytes) (ss : List StepValue) (i : ℕ) (w : StepValue) → i < length ss → w ≡ get_or ss i w → steps_rise ss ≡ true → IsEnd k ss (i + 1)
    → cond (is_eq (key_cmp w.key k)) w.at w.above ≡ number_from b ss k
found b k ss i w lt is rise h =
    let front = take_more ss i w lt ∙ ap (λ (s : StepValue). take i ss ++ s ∷ []) (sym is) in
    let whole = take-append-drop (i + 1) ss in
    let sides = around (take i ss) w [] (ap steps_rise (sym front) ∙ rises_left (take (i + 1) ss) (drop (i + 1) ss) (ap steps_rise whole ∙ rise)) in
    let at = ap (λ l. number_from b l k) front ∙ number_push b (take i ss) w k sides.under in
    let all = ap (λ l. number_from b l k) whole in
    let part = front_decides b (take (i + 1) ss) (drop (i + 1) ss) k (rest_over k ss (i + 1) (omega arith) h) in
    let le = ap (λ (s : StepValue). is_le (key_cmp s.key k)) is ∙ h.0 i w (omega arith) (omega arith) in
    grind (arith, turned w.key k)

-- ---- another number

pub renumbered_rises : (n : ℕ) (ss : List StepValue) → steps_rise (map (renumbered n) ss) ≡ steps_rise ss
renumbered_rises n [] = refl
renumbered_rises n (s ∷ ss) = λ i. list_all-map (λ t. is_lt (key_cmp s.key t.key)) (renumbered n) ss i && renumbered_rises n ss i

renumbered_from : (n b : ℕ) (ss : List StepValue) (k : Bytes) → number_from (in_place_of n b) (map (renumbered n) ss) k ≡ in_place_of n (number_from b ss k)
renumbered_from n b [] k = refl
renumbered_from n b (s ∷ ss) k = grind (arith, renumbered_from n s.above ss k)

pub in_place_low : (n was : ℕ) → in_place_of n was ≤ n
in_place_low n was = grind (arith, nat_tests)

-- ---- two lists and what was made of their ends

pub at_rest : (xs ys ts : List StepValue) (k : Bytes) → length xs ≡ 0 → length ys ≡ 0 → merged_at xs ys ts k ≡ number_at ts k
at_rest xs ys ts k none no_more = λ i. merged_at (nil_from_length xs none i) (nil_from_length ys no_more i) ts k

pub rises_with : (xs ts : List StepValue) → length ts ≡ 0 → steps_rise xs ≡ true → steps_rise (xs ++ ts) ≡ true
rises_with xs ts none h = ap (λ l. steps_rise (xs ++ l)) (nil_from_length ts none) ∙ ap steps_rise (append-nil xs) ∙ h

-- at rest, with other numbers
pub renumbered_run : (n : ℕ) (xs ys ts ss : List StepValue) (k : Bytes) → xs ≡ [] → ys ≡ [] → ts ≡ map (renumbered n) ss
    → merged_at xs ys ts k ≡ in_place_of n (number_at ss k)
renumbered_run n xs ys ts ss k no_xs no_ys is = (λ i. merged_at (no_xs i) (no_ys i) (is i) k) ∙ renumbered_from n 0 ss k
