-- A posting is dropped where another answers whoever may ask in its place.
use Rattle.std.proofs.Common.{◌≡◌, ◌+◌, ℕ, zero, suc, length, Bool, true, false, ◌&&◌, ◌||◌, List, [], ◌∷◌, ◌++◌}
use Rattle.std.proofs.Common.{refl, Option, Some, None, sym, ap, ◌∙◌, arith}
use Rattle.std.proofs.lemmas.Bool.{and_parts}
use Rattle.std.proofs.lemmas.Bool.Decides.{nat_tests}
use Rattle.std.proofs.lemmas.Grind.{common_steps}
use Rattle.std.proofs.lemmas.List.{append_assoc}
use Rattle.std.proofs.lemmas.List.Folds.{list_all-append}
use Rattle.std.specs.List.{AllByRecursion, list_all, list_any}
use Rattle.std.specs.Prelude.{slice_get}
use Rattle.std.specs.Ordering.{is_le}
use Rattle.std.specs.Prelude.{not, nat_le, nat_lt, ◌==◌, if◌then◌else◌}
use Rattle.model.proofs.KeyOrder.{same_keys}
use Rattle.model.proofs.Lookups.{some_same}
use Rattle.model.specs.Map.{Bytes, is_same_key, key_cmp}
use Rattle.pivot_check.specs.Agreeing.{lesser_assoc, lesser_none, least-append}
use Rattle.pivot_check.specs.Kept.{Reach, may_ask}
use Rattle.pivot_check.specs.Postings.{AnswerForAll, Posting, asked_in, keys_rise, least, lesser}
use Rattle.pivot_check.specs.Redundant.{IsWithin, MakesFor, are_spaced, is_redundant, is_redundant_behind}
use Rattle.pivot_check.specs.Redundant.{is_undivided}

-- ---- who may ask

outside : (n m b : ℕ) (bs : List ℕ) → list_all (λ k. nat_lt k n || nat_le m k) bs ≡ true → list_any (λ k. k == b) bs ≡ true → nat_lt b m ≡ true
    → nat_lt b n ≡ true
outside n m b [] h g lt = cc
outside n m b (k ∷ bs) h g lt = grind (arith, nat_tests, outside n m b bs)

-- one who may ask and began before the later number began before both
began_before : (reach : Reach) (n m b : ℕ) → is_undivided reach n m ≡ true → may_ask reach b ≡ true → nat_lt b m ≡ true → nat_lt b n ≡ true
began_before reach n m b h asks lt = grind (arith, nat_tests, outside n m b reach.begins)

same_key : (j k : Bytes) → is_same_key j k ≡ true → j ≡ k
same_key j k h = grind (arith, common_steps, same_keys j k)

by_answers : (x y flagged f g : Bool) (b n m : ℕ) → x ≡ y → nat_le n m ≡ true → (f || not g) ≡ true → (nat_lt b m ≡ true → nat_lt b n ≡ true)
    → lesser (if x && (nat_lt b n && (f || not flagged)) then Some n else None) (if y && (nat_lt b m && (g || not flagged)) then Some m else None)
    ≡ (if x && (nat_lt b n && (f || not flagged)) then Some n else None)
by_answers x y flagged f g b n m same order flags before = grind (arith, nat_tests)

-- what is asked of a redundant posting is asked of the one that makes it so, which has no greater number
answered : (reach : Reach) (p q : Posting) → is_redundant reach p q ≡ true → (b : ℕ) → may_ask reach b ≡ true → (keys : Bytes → Bool) (flagged : Bool)
    → lesser (if asked_in keys b flagged p then Some p.number else None) (if asked_in keys b flagged q then Some q.number else None)
    ≡ (if asked_in keys b flagged p then Some p.number else None)
answered reach p q h b asks keys flagged =
    let flags = p.has_earlier_target || not q.has_earlier_target in
    let divided = is_undivided reach p.number q.number in
    let parts = and_parts (is_same_key p.key q.key) (nat_le p.number q.number && (flags && divided)) h in
    let more = and_parts (nat_le p.number q.number) (flags && divided) parts.1 in
    let rest = and_parts flags divided more.1 in
    let covered : keys p.key ≡ keys q.key = ap keys (same_key p.key q.key parts.0) in
    let order : nat_le p.number q.number ≡ true = more.0 in
    let flagged_too : flags ≡ true = rest.0 in
    let before : nat_lt b q.number ≡ true → nat_lt b p.number ≡ true = began_before reach p.number q.number b rest.1 asks in
    by_answers (keys p.key) (keys q.key) flagged p.has_earlier_target q.has_earlier_target b p.number q.number covered order flagged_too before

-- so the postings that end with that one answer as they do with the redundant one
redundant_least : (reach : Reach) (ms : List Posting) (q : Posting) → is_redundant_behind reach ms q ≡ true → (b : ℕ) → may_ask reach b ≡ true
    → (keys : Bytes → Bool) (flagged : Bool)
    → lesser (least (asked_in keys b flagged) ms) (if asked_in keys b flagged q then Some q.number else None) ≡ least (asked_in keys b flagged) ms
redundant_least reach [] q h b asks keys flagged = cc
redundant_least reach (p ∷ []) q h b asks keys flagged = grind (arith, lesser_none, answered reach p q h b asks keys flagged)
redundant_least reach (p ∷ o ∷ ps) q h b asks keys flagged =
    lesser_assoc (if asked_in keys b flagged p then Some p.number else None) (least (asked_in keys b flagged) (o ∷ ps))
    (if asked_in keys b flagged q then Some q.number else None)
    ∙ ap (lesser (if asked_in keys b flagged p then Some p.number else None)) (redundant_least reach (o ∷ ps) q h b asks keys flagged)

-- the last of the postings decides
pub last_decides : (reach : Reach) (ps : List Posting) (p q : Posting) (n : ℕ) → n + 1 ≡ length ps → slice_get ps n ≡ Some p
    → is_redundant_behind reach ps q ≡ is_redundant reach p q
last_decides reach [] p q n e h = absurd (omega arith)
last_decides reach (o ∷ []) p q zero e h = ap (λ r. is_redundant reach r q) (some_same h)
last_decides reach (o ∷ []) p q (suc n) e h = absurd (omega arith)
last_decides reach (o ∷ r ∷ ps) p q zero e h = absurd (omega arith)
last_decides reach (o ∷ r ∷ ps) p q (suc n) e h = last_decides reach (r ∷ ps) p q n (omega arith) h

-- ---- the first of xs is dropped

none_of_three : (o p q : Option ℕ) → lesser o (lesser p q) ≡ None → lesser o q ≡ None
none_of_three o p q h = grind arith

dropped_answers : (reach : Reach) (ms xs xs' : List Posting) (q : Posting) → xs ≡ q ∷ xs' → is_redundant_behind reach ms q ≡ true
    → AnswerForAll (may_ask reach) (ms ++ xs') (ms ++ xs)
dropped_answers reach ms xs xs' q is h = record {
  same = λ b asks keys flagged.
      let c = asked_in keys b flagged in
      least-append c ms xs'
      ∙ ap (λ o. lesser o (least c xs')) (sym (redundant_least reach ms q h b asks keys flagged))
      ∙ lesser_assoc (least c ms) (if c q then Some q.number else None) (least c xs')
      ∙ sym (ap (λ l. least c (ms ++ l)) is ∙ least-append c ms (q ∷ xs'));
  none = λ c none.
      least-append c ms xs'
      ∙ none_of_three (least c ms) (if c q then Some q.number else None) (least c xs')
      (sym (ap (λ l. least c (ms ++ l)) is ∙ least-append c ms (q ∷ xs')) ∙ none);
}

pub rises_without : (ms xs xs' : List Posting) (q : Posting) → xs ≡ q ∷ xs' → keys_rise (ms ++ xs) ≡ true → keys_rise (ms ++ xs') ≡ true
rises_without ms xs xs' q is h = by ms (ap (λ l. keys_rise (ms ++ l)) (sym is) ∙ h)
  where
    by : (ms : List Posting) → keys_rise (ms ++ q ∷ xs') ≡ true → keys_rise (ms ++ xs') ≡ true
    by [] h = (and_parts _ _ h).1
    by (m ∷ ms) h =
        grind (
          arith,
          by ms,
          list_all-append (λ p. is_le (key_cmp m.key p.key)) ms (q ∷ xs'),
          list_all-append (λ p. is_le (key_cmp m.key p.key)) ms xs',
        )

-- ---- the first of xs is moved

moved_answers : (begins : ℕ → Bool) (ms ms' xs xs' : List Posting) (q : Posting) → xs ≡ q ∷ xs' → ms' ≡ ms ++ q ∷ []
    → AnswerForAll begins (ms' ++ xs') (ms ++ xs)
moved_answers begins ms ms' xs xs' q is added =
    let same = ap (λ l. l ++ xs') added ∙ append_assoc ms (q ∷ []) xs' ∙ ap (λ l. ms ++ l) (sym is) in
    record { same = λ b asks keys flagged. ap (least (asked_in keys b flagged)) same; none = λ c none. ap (least c) same ∙ none }

-- ---- none of what was made is redundant

-- one that is outside for those who might ask once is so for those who may now
still_outside : (once : Reach) (n m : ℕ) (bs : List ℕ) → is_undivided once n m ≡ true → AllByRecursion (λ b. may_ask once b ≡ true) bs
    → list_all (λ k. nat_lt k n || nat_le m k) bs ≡ true
still_outside once n m [] h all = refl
still_outside once n m (b ∷ bs) h all = grind (arith, nat_tests, began_before once n m b h all.0, still_outside once n m bs h all.1)

still_undivided : (once reach : Reach) (n m : ℕ) → IsWithin once reach → is_undivided once n m ≡ true → is_undivided reach n m ≡ true
still_undivided once reach n m within h =
    let low = within.since in
    grind (arith, nat_tests, still_outside once n m reach.begins h within.begins)

still_redundant : (once reach : Reach) (p q : Posting) → IsWithin once reach → is_redundant reach p q ≡ false → is_redundant once p q ≡ false
still_redundant once reach p q within h = grind (arith, still_undivided once reach p.number q.number within)

pushed_spaced : (once reach : Reach) (ms : List Posting) (q : Posting) → IsWithin once reach → is_redundant_behind reach ms q ≡ false
    → are_spaced once ms ≡ true → are_spaced once (ms ++ q ∷ []) ≡ true
pushed_spaced once reach [] q within h spaced = refl
pushed_spaced once reach (p ∷ []) q within h spaced = grind (arith, still_redundant once reach p q within h)
pushed_spaced once reach (p ∷ o ∷ ps) q within h spaced = grind (arith, pushed_spaced once reach (o ∷ ps) q within h)

pub moved_makes : (reach : Reach) (ms ms' xs xs' : List Posting) (q : Posting) → xs ≡ q ∷ xs' → ms' ≡ ms ++ q ∷ []
    → is_redundant_behind reach ms q ≡ false → MakesFor reach ms ms' (ms' ++ xs') (ms ++ xs)
moved_makes reach ms ms' xs xs' q is added h = record {
  answers = moved_answers (may_ask reach) ms ms' xs xs' q is added;
  spaced = λ once within spaced. ap (are_spaced once) added ∙ pushed_spaced once reach ms q within h spaced;
}

pub dropped_makes : (reach : Reach) (ms xs xs' : List Posting) (q : Posting) → xs ≡ q ∷ xs' → is_redundant_behind reach ms q ≡ true
    → MakesFor reach ms ms (ms ++ xs') (ms ++ xs)
dropped_makes reach ms xs xs' q is h = record { answers = dropped_answers reach ms xs xs' q is h; spaced = λ once within spaced. spaced }

-- ---- beside others

either_none : (o p : Option ℕ) → lesser o p ≡ None → (o ≡ None) × (p ≡ None)
either_none o p h = grind arith

-- the first part was moved
pub first_answers : (begins : ℕ → Bool) (ms ms' xs xs' ys : List Posting) → AnswerForAll begins (ms' ++ xs') (ms ++ xs)
    → AnswerForAll begins (ms' ++ (xs' ++ ys)) (ms ++ (xs ++ ys))
first_answers begins ms ms' xs xs' ys are = record {
  same = λ b asks keys flagged.
      let c = asked_in keys b flagged in
      three c ms' xs' ∙ ap (λ o. lesser o (least c ys)) (are.same b asks keys flagged) ∙ sym (three c ms xs);
  none = λ c none.
      let parts = either_none (least c (ms ++ xs)) (least c ys) (sym (three c ms xs) ∙ none) in
      three c ms' xs' ∙ (λ i. lesser (are.none c parts.0 i) (parts.1 i));
}
  where
    three : (c : Posting → Bool) (ms xs : List Posting) → least c (ms ++ (xs ++ ys)) ≡ lesser (least c (ms ++ xs)) (least c ys)
    three c ms xs = ap (least c) (sym (append_assoc ms xs ys)) ∙ least-append c (ms ++ xs) ys

-- the second was
pub second_answers : (begins : ℕ → Bool) (ms ms' xs ys ys' : List Posting) → AnswerForAll begins (ms' ++ ys') (ms ++ ys)
    → AnswerForAll begins (ms' ++ (xs ++ ys')) (ms ++ (xs ++ ys))
second_answers begins ms ms' xs ys ys' are = record {
  same = λ b asks keys flagged.
      let c = asked_in keys b flagged in
      turned c ms' ys' ∙ ap (λ o. lesser o (least c xs)) (are.same b asks keys flagged) ∙ sym (turned c ms ys);
  none = λ c none.
      let parts = either_none (least c (ms ++ ys)) (least c xs) (sym (turned c ms ys) ∙ none) in
      turned c ms' ys' ∙ (λ i. lesser (are.none c parts.0 i) (parts.1 i));
}
  where
    turn : (o p q : Option ℕ) → lesser o (lesser p q) ≡ lesser (lesser o q) p
    turn o p q = grind arith

    turned : (c : Posting → Bool) (ms ys : List Posting) → least c (ms ++ (xs ++ ys)) ≡ lesser (least c (ms ++ ys)) (least c xs)
    turned c ms ys =
        least-append c ms (xs ++ ys) ∙ ap (lesser (least c ms)) (least-append c xs ys) ∙ turn (least c ms) (least c xs) (least c ys)
        ∙ ap (λ o. lesser o (least c xs)) (sym (least-append c ms ys))
