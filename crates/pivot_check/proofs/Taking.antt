-- A step of a merge: the first of one list goes behind what was made, or is dropped since the last of that makes it redundant.
use Rattle.std.proofs.Common.{◌≡◌, ℕ, Bool, true, false, List, [], ◌∷◌, ◌++◌, refl, sym, ap, ◌∙◌, subst, arith, inl}
use Rattle.std.proofs.Common.{inr}
use Rattle.std.proofs.lemmas.Bool.{and_from, and_parts, cases_Bool}
use Rattle.std.proofs.lemmas.Bool.Decides.{nat_tests}
use Rattle.std.proofs.lemmas.Grind.{common_steps}
use Rattle.std.proofs.lemmas.List.{append_assoc}
use Rattle.std.specs.List.{list_all}
use Rattle.std.specs.Ordering.{is_le, is_lt}
use Rattle.std.specs.Prelude.{nat_le, if◌then◌else◌}
use Rattle.model.proofs.KeyOrder.{same_keys}
use Rattle.model.specs.Map.{key_cmp}
use Rattle.pivot_check.proofs.Joined.{moved_before, moved_other}
use Rattle.pivot_check.proofs.KeptShort.{all_above, all_le, is_before, not_same, numbers_behind}
use Rattle.pivot_check.proofs.Redundancy.{dropped_makes, moved_makes, rises_without}
use Rattle.pivot_check.specs.KeptShort.{NumbersRise, numbers_rise}
use Rattle.pivot_check.specs.Merging.{BeginsBelow, BeginsUnder, TakesFirst}
use Rattle.pivot_check.specs.Postings.{Posting, are_upto, keys_rise, postings_from}
use Rattle.pivot_check.specs.Reach.{Reach}
use Rattle.pivot_check.specs.Redundant.{MakesFor, is_redundant, is_redundant_behind}

-- ---- numbers

-- those up to a posting
front : (ms xs : List Posting) (p : Posting) → numbers_rise (ms ++ p ∷ xs) ≡ true → numbers_rise (ms ++ p ∷ []) ≡ true
front [] xs p h = refl
front (m ∷ []) xs p h = and_from _ _ (and_parts (is_before m p) (numbers_rise (p ∷ xs)) h).0 refl
front (m ∷ n ∷ ms) xs p h =
    let parts = and_parts (is_before m n) (numbers_rise (n ∷ (ms ++ p ∷ xs))) h in
    and_from _ _ parts.0 (front (n ∷ ms) xs p parts.1)

behind : (ms ys : List Posting) → numbers_rise (ms ++ ys) ≡ true → numbers_rise ys ≡ true
behind [] ys h = h
behind (m ∷ ms) ys h = behind ms ys (numbers_behind m (ms ++ ys) h)

around : (ms ys : List Posting) (p : Posting) → numbers_rise (ms ++ p ∷ []) ≡ true → numbers_rise (p ∷ ys) ≡ true → numbers_rise (ms ++ p ∷ ys) ≡ true
around [] ys p h g = g
around (m ∷ []) ys p h g = and_from _ _ (and_parts (is_before m p) true h).0 g
around (m ∷ n ∷ ms) ys p h g =
    let parts = and_parts (is_before m n) (numbers_rise (n ∷ (ms ++ p ∷ []))) h in
    and_from _ _ parts.0 (around (n ∷ ms) ys p parts.1 g)

-- one that makes the next redundant comes before what that comes before
before_next : (reach : Reach) (m p x : Posting) → is_redundant reach m p ≡ true → is_before p x ≡ true → is_before m x ≡ true
before_next reach m p x h order = grind (arith, nat_tests, common_steps, same_keys m.key p.key)

without : (reach : Reach) (ms xs : List Posting) (p : Posting) → is_redundant_behind reach ms p ≡ true → numbers_rise (ms ++ p ∷ xs) ≡ true
    → numbers_rise (ms ++ xs) ≡ true
without reach [] xs p h numbers = cc
without reach (m ∷ []) [] p h numbers = refl
without reach (m ∷ []) (x ∷ xs) p h numbers =
    let parts = and_parts (is_before m p) (numbers_rise (p ∷ x ∷ xs)) numbers in
    let rest = and_parts (is_before p x) (numbers_rise (x ∷ xs)) parts.1 in
    and_from _ _ (before_next reach m p x h rest.0) rest.1
without reach (m ∷ n ∷ ms) xs p h numbers =
    let parts = and_parts (is_before m n) (numbers_rise (n ∷ (ms ++ p ∷ xs))) numbers in
    and_from _ _ parts.0 (without reach (n ∷ ms) xs p h parts.1)

-- behind a posting stands what has no number below its own
no_later : (middle : ℕ) (p : Posting) (xs ys : List Posting) → are_upto middle (p ∷ xs) ≡ true → postings_from middle ys ≡ true → numbers_rise ys ≡ true
    → numbers_rise (p ∷ ys) ≡ true
no_later middle p xs [] upto from numbers = refl
no_later middle p xs (y ∷ ys) upto from numbers =
    let parts = and_parts (nat_le middle y.number) (postings_from middle ys) from in
    and_from _ _ (grind (arith, nat_tests)) numbers

-- or what is of other keys
other_keys : (p : Posting) (ys : List Posting) → BeginsUnder (p ∷ []) ys → numbers_rise ys ≡ true → numbers_rise (p ∷ ys) ≡ true
other_keys p [] under numbers = refl
other_keys p (y ∷ ys) under numbers =
    let other = not_same p.key y.key (and_parts (is_lt (key_cmp p.key y.key)) _ (under p [] refl)).0 in
    and_from _ _ (grind (arith, other)) numbers

upto_rest : (last : ℕ) (p : Posting) (ps : List Posting) → are_upto last (p ∷ ps) ≡ true → are_upto last ps ≡ true
upto_rest last p ps h = grind (arith, nat_tests)

-- what stands behind what was made stands behind what is made then
moved_beside : (made xs ys : List Posting) (p : Posting) → numbers_rise (made ++ p ∷ xs) ≡ true → numbers_rise (p ∷ ys) ≡ true
    → numbers_rise ((made ++ p ∷ []) ++ ys) ≡ true
moved_beside made xs ys p h g = ap numbers_rise (append_assoc made (p ∷ []) ys) ∙ around made ys p (front made xs p h) g

-- ---- the step

module _ (reach : Reach) (made xs made_then xs_then : List Posting) (step : TakesFirst reach made xs made_then xs_then) where
  is_dropped : (is_redundant_behind reach made step.taken ≡ true) → made_then ≡ made
  is_dropped h = step.is ∙ ap (λ (b : Bool). if b then made else made ++ step.taken ∷ []) h

  is_moved : (is_redundant_behind reach made step.taken ≡ false) → made_then ≡ made ++ step.taken ∷ []
  is_moved h = step.is ∙ ap (λ (b : Bool). if b then made else made ++ step.taken ∷ []) h

  pub taken_makes : MakesFor reach made made_then (made_then ++ xs_then) (made ++ xs)
  taken_makes = elim (cases_Bool (is_redundant_behind reach made step.taken)) [
    | inl is ↦
        subst (λ l. MakesFor reach made l (l ++ xs_then) (made ++ xs)) (sym (is_dropped is)) (dropped_makes reach made xs xs_then step.taken step.was is)
    | inr isnt ↦ moved_makes reach made made_then xs xs_then step.taken step.was (is_moved isnt) isnt
  ]

  pub taken_rises : keys_rise (made ++ xs) ≡ true → keys_rise (made_then ++ xs_then) ≡ true
  taken_rises h = elim (cases_Bool (is_redundant_behind reach made step.taken)) [
    | inl is ↦ ap (λ l. keys_rise (l ++ xs_then)) (is_dropped is) ∙ rises_without made xs xs_then step.taken step.was h
    | inr isnt ↦ ap (λ l. keys_rise (l ++ xs_then)) (is_moved isnt) ∙ moved_before made xs xs_then step.taken step.was h
  ]

  pub taken_beside : (ys : List Posting) → keys_rise (made ++ xs) ≡ true → BeginsBelow xs ys → keys_rise (made ++ ys) ≡ true
      → keys_rise (made_then ++ ys) ≡ true
  taken_beside ys h below g = elim (cases_Bool (is_redundant_behind reach made step.taken)) [
    | inl is ↦ ap (λ l. keys_rise (l ++ ys)) (is_dropped is) ∙ g
    | inr isnt ↦ ap (λ l. keys_rise (l ++ ys)) (is_moved isnt) ∙ moved_other made xs xs_then ys step.taken step.was h below g
  ]

  numbers_taken : numbers_rise (made ++ xs) ≡ true → numbers_rise (made_then ++ xs_then) ≡ true
  numbers_taken h =
      let whole : numbers_rise (made ++ step.taken ∷ xs_then) ≡ true = ap (λ l. numbers_rise (made ++ l)) (sym step.was) ∙ h in
      elim (cases_Bool (is_redundant_behind reach made step.taken)) [
        | inl is ↦ ap (λ l. numbers_rise (l ++ xs_then)) (is_dropped is) ∙ without reach made xs_then step.taken is whole
        | inr isnt ↦ ap (λ l. numbers_rise (l ++ xs_then)) (is_moved isnt) ∙ ap numbers_rise (append_assoc made (step.taken ∷ []) xs_then) ∙ whole
      ]

  numbers_beside : (ys : List Posting) → numbers_rise (made ++ xs) ≡ true → numbers_rise (step.taken ∷ ys) ≡ true → numbers_rise (made ++ ys) ≡ true
      → numbers_rise (made_then ++ ys) ≡ true
  numbers_beside ys h next g =
      let whole : numbers_rise (made ++ step.taken ∷ xs_then) ≡ true = ap (λ l. numbers_rise (made ++ l)) (sym step.was) ∙ h in
      elim (cases_Bool (is_redundant_behind reach made step.taken)) [
        | inl is ↦ ap (λ l. numbers_rise (l ++ ys)) (is_dropped is) ∙ g
        | inr isnt ↦ ap (λ l. numbers_rise (l ++ ys)) (is_moved isnt) ∙ moved_beside made xs_then ys step.taken whole next
      ]

  -- the first of two was taken
  pub first_numbers : (ys : List Posting) → NumbersRise made xs ys → NumbersRise made_then xs_then ys
  first_numbers ys rise =
      let upto : are_upto rise.middle (step.taken ∷ xs_then) ≡ true = ap (are_upto rise.middle) (sym step.was) ∙ rise.upto in
      record {
        first_rises = numbers_taken rise.first_rises;
        second_rises = numbers_beside ys rise.first_rises
            (no_later rise.middle step.taken xs_then ys upto rise.from (behind made ys rise.second_rises)) rise.second_rises;
        middle = rise.middle;
        upto = upto_rest rise.middle step.taken xs_then upto;
        from = rise.from;
      }

  -- the second was
  pub second_numbers : (ys : List Posting) → BeginsUnder xs ys → NumbersRise made ys xs → NumbersRise made_then ys xs_then
  second_numbers ys under rise =
      let from : postings_from rise.middle (step.taken ∷ xs_then) ≡ true = ap (postings_from rise.middle) (sym step.was) ∙ rise.from in
      let above : BeginsUnder (step.taken ∷ []) ys = λ w rest is. under w xs_then (step.was ∙ (λ i. first_is w rest is i ∷ xs_then)) in
      record {
        first_rises = numbers_beside ys rise.second_rises (other_keys step.taken ys above (behind made ys rise.first_rises)) rise.first_rises;
        second_rises = numbers_taken rise.second_rises;
        middle = rise.middle;
        upto = rise.upto;
        from = (and_parts (nat_le rise.middle step.taken.number) (postings_from rise.middle xs_then) from).1;
      }
    where
      first_is : (w : Posting) (rest : List Posting) → step.taken ∷ [] ≡ w ∷ rest → step.taken ≡ w
      first_is w rest is = cc

-- ---- what makes it such a step

pub moves_first : (reach : Reach) (made xs made_then xs_then : List Posting) (p : Posting) → xs ≡ p ∷ xs_then → made_then ≡ made ++ p ∷ []
    → is_redundant_behind reach made p ≡ false → TakesFirst reach made xs made_then xs_then
moves_first reach made xs made_then xs_then p was is needed = record {
  taken = p;
  was = was;
  is = is ∙ sym (ap (λ (b : Bool). if b then made else made ++ p ∷ []) needed);
}

pub drops_first : (reach : Reach) (made xs xs_then : List Posting) (p : Posting) → xs ≡ p ∷ xs_then → is_redundant_behind reach made p ≡ true
    → TakesFirst reach made xs made xs_then
drops_first reach made xs xs_then p was needless = record {
  taken = p;
  was = was;
  is = sym (ap (λ (b : Bool). if b then made else made ++ p ∷ []) needless);
}

pub below_from_under : (xs ys : List Posting) → BeginsUnder xs ys → BeginsBelow xs ys
below_from_under xs ys under w rest is = all_le w.key ys (under w rest is)

-- all keys are above the first of xs where the first of them is
pub begins_under : (xs xs_then ys ys_then : List Posting) (x y : Posting) → xs ≡ x ∷ xs_then → ys ≡ y ∷ ys_then → keys_rise ys ≡ true
    → is_lt (key_cmp x.key y.key) ≡ true → BeginsUnder xs ys
begins_under xs xs_then ys ys_then x y xs_is ys_is h lt w rest is =
    let rise : keys_rise (y ∷ ys_then) ≡ true = ap keys_rise (sym ys_is) ∙ h in
    let parts = and_parts (list_all (λ q. is_le (key_cmp y.key q.key)) ys_then) (keys_rise ys_then) rise in
    let above = and_from _ _ lt (all_above x.key y.key ys_then lt parts.0) in
    let same : x ≡ w = cc in
    subst (λ (p : Posting). list_all (λ q. is_lt (key_cmp p.key q.key)) ys ≡ true) same
    (subst (λ l. list_all (λ q. is_lt (key_cmp x.key q.key)) l ≡ true) (sym ys_is) above)
