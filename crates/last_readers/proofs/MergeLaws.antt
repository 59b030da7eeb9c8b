-- Two step functions made into one, from their ends.
use Rattle.std.proofs.Common.{◌≡◌, ℕ, Bool, true, false, List, [], ◌∷◌, ◌++◌, length, refl, sym, ap, subst, ◌∙◌}
use Rattle.std.proofs.Common.{arith}
use Rattle.std.proofs.Math.Nat.{max_comm}
use Rattle.std.proofs.lemmas.Bool.{and_parts}
use Rattle.std.proofs.lemmas.Bool.Decides.{nat_tests}
use Rattle.std.proofs.lemmas.List.{append_assoc, length_push, same_from_push}
use Rattle.std.proofs.lemmas.List.Folds.{list_all-append}
use Rattle.std.specs.Ordering.{is_le}
use Rattle.std.specs.Prelude.{max, if◌then◌else◌}
use Rattle.std.specs.declared.cmp.Ordering.TheVariants.{Less, Equal}
use Rattle.model.proofs.Entries.{turned}
use Rattle.model.proofs.KeyOrder.{itself, same_keys, turned_less}
use Rattle.model.specs.Map.{Bytes, key_cmp}
use Rattle.last_readers.proofs.StepLaws.{around, put_between, over_less, under_more, low, high, end_push, number_push}
use Rattle.last_readers.proofs.StepLaws.{end_is, under_last}
use Rattle.last_readers.specs.Merging.{later, EndsOver, EndsEqual, IsParted, IsJoined, with_step}
use Rattle.last_readers.specs.Steps.{StepValue, is_level, by_order, number_from, number_at, merged_at, end_of}
use Rattle.last_readers.specs.Steps.{are_over, steps_rise, are_under, is_step_from, cut}

-- ---- the steps below a key

-- the last step was taken off
parted_popped : (xs ys : List StepValue) (w : StepValue) → xs ≡ ys ++ w ∷ [] → steps_rise xs ≡ true → IsParted xs w.key ys
parted_popped xs ys w is rise =
    let rises : steps_rise (ys ++ w ∷ []) ≡ true = ap steps_rise (sym is) ∙ rise in
    let under = (around ys w [] rises).under in
    subst (λ l. IsParted l w.key ys) (sym is) (record {
      below = λ j e. number_push 0 ys w j under ∙ ap (λ o. by_order o (number_at ys j) w.at w.above) e;
      above = λ j e. number_push 0 ys w j under ∙ ap (λ o. by_order o (number_at ys j) w.at w.above) (turned_less w.key j e) ∙ sym (end_push 0 ys w);
      under = under;
      from = λ n h. (and_parts _ _ (sym (list_all-append (is_step_from n) ys (w ∷ [])) ∙ h)).0;
      rising = λ ts h. (around ys w ts (ap steps_rise (sym (append_assoc ys (w ∷ []) ts)) ∙ h)).without;
    })

-- none has the key
parted_kept : (xs : List StepValue) (k : Bytes) → are_under k xs ≡ true → IsParted xs k xs
parted_kept xs k under = record {
  below = λ j e. refl;
  above = λ j e. high 0 xs j (under_more k j xs (ap is_le e) under);
  under = under;
  from = λ n h. h;
  rising = λ ts h. h;
}

-- what the last says
at_last : (xs ys : List StepValue) (w : StepValue) → xs ≡ ys ++ w ∷ [] → steps_rise xs ≡ true → w.at ≡ number_at xs w.key
at_last xs ys w is rise =
    let under = (around ys w [] (ap steps_rise (sym is) ∙ rise)).under in
    sym (ap (λ l. number_at l w.key) is ∙ number_push 0 ys w w.key under ∙ ap (λ o. by_order o (number_at ys w.key) w.at w.above) (itself w.key))

-- the last of xs was taken off, and what has its key off ys, which has the numbers a there and b at its end
joined : (o : ℕ) (xs xs' ys ys' : List StepValue) (w m : StepValue) (a b : ℕ) → xs ≡ xs' ++ w ∷ [] → steps_rise xs ≡ true → IsParted ys w.key ys'
    → a ≡ number_at ys w.key → b ≡ end_of ys →
    m ≡ record { key = w.key; at = later o w.at a; above = later o w.above b } → IsJoined o xs xs' ys ys' m
joined o xs xs' ys ys' w m a b is rise second at above e = subst (IsJoined o xs xs' ys ys') (sym e) (record {
  first = parted_popped xs xs' w is rise;
  second = second;
  at = λ i. later o (at_last xs xs' w is rise i) (at i);
  above = λ i. later o (end_is xs xs' w is i) (above i);
  rising = λ ts h g. (around xs' w ts (ap steps_rise (sym (append_assoc xs' (w ∷ []) ts)) ∙ ap (λ l. steps_rise (l ++ ts)) (sym is) ∙ h)).over;
})

-- the last of xs alone
pub joined_one : (o : ℕ) (xs xs' ys : List StepValue) (w m : StepValue) → xs ≡ xs' ++ w ∷ [] → steps_rise xs ≡ true → are_under w.key ys ≡ true →
    m ≡ record { key = w.key; at = later o w.at (end_of ys); above = later o w.above (end_of ys) } → IsJoined o xs xs' ys ys m
joined_one o xs xs' ys w m is rise under e =
    joined o xs xs' ys ys w m (end_of ys) (end_of ys) is rise (parted_kept ys w.key under) (sym (high 0 ys w.key under)) refl e

-- the last of both, which have one key
pub joined_both : (o : ℕ) (xs xs' ys ys' : List StepValue) (w v m : StepValue) → xs ≡ xs' ++ w ∷ [] → ys ≡ ys' ++ v ∷ [] → steps_rise xs ≡ true
    → steps_rise ys ≡ true → w.key ≡ v.key →
    m ≡ record { key = w.key; at = later o w.at v.at; above = later o w.above v.above } → IsJoined o xs xs' ys ys' m
joined_both o xs xs' ys ys' w v m is was rise rises one e =
    joined o xs xs' ys ys' w m v.at v.above is rise (subst (λ (k : Bytes). IsParted ys k ys') (sym one) (parted_popped ys ys' v was rises))
    (at_last ys ys' v was rises ∙ ap (λ (k : Bytes). number_at ys k) (sym one)) (end_is ys ys' v was) e

pub joined_swapped : (o : ℕ) (xs xs' ys ys' : List StepValue) (m : StepValue) → IsJoined o ys ys' xs xs' m → IsJoined o xs xs' ys ys' m
joined_swapped o xs xs' ys ys' m j = record {
  first = j.second;
  second = j.first;
  at = j.at ∙ ap (cut o) (max_comm (number_at ys m.key) (number_at xs m.key));
  above = j.above ∙ ap (cut o) (max_comm (end_of ys) (end_of xs));
  rising = λ ts h g. j.rising ts g h;
}

-- ---- one step of the merge

-- where numbers up to o count as none
base_cut : (o a b : ℕ) (ts : List StepValue) (k : Bytes) → cut o a ≡ cut o b → cut o (number_from a ts k) ≡ cut o (number_from b ts k)
base_cut o a b [] k same = same
base_cut o a b (s ∷ ts) k same = grind arith

-- one step of both was moved
pub record IsMoved (o : ℕ) (xs xs' ys ys' ts ts' : List StepValue) : Type 0 where
  pub same : (k : Bytes) → cut o (merged_at xs' ys' ts' k) ≡ cut o (merged_at xs ys ts k)
  pub first : steps_rise (xs' ++ ts') ≡ true
  pub second : steps_rise (ys' ++ ts') ≡ true

module _ (o : ℕ) (xs xs' ys ys' ts : List StepValue) (m : StepValue) (j : IsJoined o xs xs' ys ys' m) where
  -- what is left of both, and the step, have the number of both
  together : (k : Bytes) → cut o (by_order (key_cmp k m.key) (max (number_at xs' k) (number_at ys' k)) m.at m.above)
      ≡ cut o (max (number_at xs k) (number_at ys k))
  together k =
      grind (arith, nat_tests, turned k m.key, same_keys k m.key, j.at, j.above, j.first.below k, j.second.below k, j.first.above k, j.second.above k)

  -- it stands in front of the others
  in_front : are_over m.key ts ≡ true → (b : ℕ) (k : Bytes) → number_from b (m ∷ ts) k ≡ number_from (by_order (key_cmp k m.key) b m.at m.above) ts k
  in_front over b k = grind (arith, low b ts k, low m.at ts k, over_less k m.key ts, same_keys k m.key)

  -- it says nothing new
  nothing_new : is_level (later o (end_of xs') (end_of ys')) m ≡ true → (k : Bytes) →
      cut o (max (number_at xs' k) (number_at ys' k)) ≡ cut o (by_order (key_cmp k m.key) (max (number_at xs' k) (number_at ys' k)) m.at m.above)
  nothing_new level k =
      grind (
        arith,
        nat_tests,
        turned k m.key,
        same_keys k m.key,
        itself m.key,
        j.first.under,
        j.second.under,
        under_more m.key k xs',
        under_more m.key k ys',
        high 0 xs' k,
        high 0 ys' k,
      )

  moved_if : (b : Bool) → is_level (later o (end_of xs') (end_of ys')) m ≡ b → steps_rise (xs ++ ts) ≡ true → steps_rise (ys ++ ts) ≡ true
      → IsMoved o xs xs' ys ys' ts (if b then ts else m ∷ ts)
  moved_if true level first second = record {
    same = λ k. base_cut o _ _ ts k (nothing_new level k ∙ together k);
    first = j.first.rising ts first;
    second = j.second.rising ts second;
  }
  moved_if false level first second =
      let rises = j.rising ts first second in
      record {
        same = λ k. ap (cut o) (in_front (and_parts _ _ rises).0 _ k) ∙ base_cut o _ _ ts k (together k);
        first = put_between xs' ts m j.first.under rises (j.first.rising ts first);
        second = put_between ys' ts m j.second.under rises (j.second.rising ts second);
      }

  pub moved : (ts' : List StepValue) → steps_rise (xs ++ ts) ≡ true → steps_rise (ys ++ ts) ≡ true → ts' ≡ with_step m (later o (end_of xs') (end_of ys')) ts
      → IsMoved o xs xs' ys ys' ts ts'
  moved ts' first second added = subst (λ l. IsMoved o xs xs' ys ys' ts l) (sym added) (moved_if _ refl first second)

-- ---- which list ends above the other

pub ends_over : (xs ys init rest : List StepValue) (x y : StepValue) → steps_rise ys ≡ true → xs ≡ init ++ x ∷ [] → ys ≡ rest ++ y ∷ []
    → key_cmp y.key x.key ≡ Less → EndsOver xs ys
ends_over xs ys init rest x y h x_is y_is less = record {
  some = omega (arith, ap length x_is, length_push init x);
  over = λ before w is. ap (λ (s : StepValue). are_under s.key ys) (sym (same_from_push init before x w (sym x_is ∙ is)).1)
      ∙ under_last ys rest y x.key y_is h less;
}

pub ends_equal : (xs ys init rest : List StepValue) (x y : StepValue) → xs ≡ init ++ x ∷ [] → ys ≡ rest ++ y ∷ [] → key_cmp x.key y.key ≡ Equal
    → EndsEqual xs ys
ends_equal xs ys init rest x y x_is y_is e = record {
  first = omega (arith, ap length x_is, length_push init x);
  second = omega (arith, ap length y_is, length_push rest y);
  same = λ before behind w v is was.
      ap (λ (s : StepValue). s.key) (sym (same_from_push init before x w (sym x_is ∙ is)).1) ∙ same_keys x.key y.key e
      ∙ ap (λ (s : StepValue). s.key) (same_from_push rest behind y v (sym y_is ∙ was)).1;
}
