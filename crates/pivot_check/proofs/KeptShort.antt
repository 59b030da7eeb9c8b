-- Of one key the numbers don't fall, and none makes the next redundant: what a sweep leaves of that, and who may ask.
use Rattle.std.proofs.Common.{◌≡◌, ◌<◌, ℕ, Bool, true, false, ◌||◌, List, [], ◌∷◌, refl, ap, sym, ◌∙◌}
use Rattle.std.proofs.Common.{subst, arith, inl, inr}
use Rattle.std.proofs.lemmas.Bool.{and_from, and_parts, cases_Bool}
use Rattle.std.proofs.lemmas.Bool.Decides.{nat_tests}
use Rattle.std.proofs.lemmas.Grind.{common_steps}
use Rattle.std.proofs.lemmas.List.Folds.{list_all-map}
use Rattle.std.specs.List.{AllByRecursion, list_all, list_any}
use Rattle.std.specs.Ordering.{is_le, is_lt}
use Rattle.std.specs.Prelude.{not, nat_le, nat_lt, ◌==◌}
use Rattle.model.proofs.KeyOrder.{le_of_lt, lt_le_trans, same_keys}
use Rattle.model.specs.Map.{Bytes, is_same_key, key_cmp}
use Rattle.pivot_check.proofs.Sweeps.{all_later}
use Rattle.pivot_check.specs.KeptShort.{numbers_rise}
use Rattle.pivot_check.specs.Postings.{Posting, keys_come_once, keys_rise, later_than}
use Rattle.pivot_check.specs.Reach.{Reach, may_ask}
use Rattle.pivot_check.specs.Redundant.{IsWithin, are_spaced, is_redundant}

-- ---- keys

-- a key that isn't below another, and isn't the same, is above it
apart : (k j : Bytes) → is_le (key_cmp k j) ≡ true → is_same_key k j ≡ false → is_lt (key_cmp k j) ≡ true
apart k j le not_same = grind (arith, common_steps)

-- one below another isn't the same
pub not_same : (k j : Bytes) → is_lt (key_cmp k j) ≡ true → is_same_key k j ≡ false
not_same k j lt = grind (arith, common_steps)

pub all_above : (k j : Bytes) (ps : List Posting) → is_lt (key_cmp k j) ≡ true → list_all (λ q. is_le (key_cmp j q.key)) ps ≡ true
    → list_all (λ q. is_lt (key_cmp k q.key)) ps ≡ true
all_above k j [] lt h = refl
all_above k j (q ∷ ps) lt h =
    let parts = and_parts (is_le (key_cmp j q.key)) (list_all (λ q. is_le (key_cmp j q.key)) ps) h in
    and_from _ _ (lt_le_trans k j q.key lt parts.0) (all_above k j ps lt parts.1)

-- between two of one key stand those of that key alone
between_same : (p q r : Bytes) → is_le (key_cmp p q) ≡ true → is_le (key_cmp q r) ≡ true → is_same_key p r ≡ true
    → (is_same_key p q ≡ true) × (is_same_key q r ≡ true)
between_same p q r le more same = elim (cases_Bool (is_same_key p q)) [
  | inl is ↦ (is, subst (λ k. is_same_key k r ≡ true) (same_keys p q (grind (arith, common_steps))) same)
  | inr isnt ↦ let lt = lt_le_trans p q r (apart p q le isnt) more in absurd (grind (arith, common_steps))
]

-- ---- the numbers of one key

-- whether a posting's number isn't above that of the next, where they are of one key
abbrev pub is_before : Posting → Posting → Bool
is_before p q = not (is_same_key p.key q.key) || nat_le p.number q.number

pub numbers_behind : (p : Posting) (ps : List Posting) → numbers_rise (p ∷ ps) ≡ true → numbers_rise ps ≡ true
numbers_behind p [] h = refl
numbers_behind p (q ∷ ps) h = (and_parts (is_before p q) (numbers_rise (q ∷ ps)) h).1

before_through : (p q r : Posting) → is_le (key_cmp p.key q.key) ≡ true → is_le (key_cmp q.key r.key) ≡ true → is_before p q ≡ true → is_before q r ≡ true
    → is_before p r ≡ true
before_through p q r le more h g = elim (cases_Bool (is_same_key p.key r.key)) [
  | inl same ↦ let both = between_same p.key q.key r.key le more same in grind (arith, nat_tests)
  | inr isnt ↦ grind (arith, nat_tests)
]

-- the second is left out
without_second : (p q : Posting) (ps : List Posting) → keys_rise (p ∷ q ∷ ps) ≡ true → numbers_rise (p ∷ q ∷ ps) ≡ true
    → (keys_rise (p ∷ ps) ≡ true) × (numbers_rise (p ∷ ps) ≡ true)
without_second p q ps keys numbers =
    let rise = and_parts (list_all (λ r. is_le (key_cmp p.key r.key)) (q ∷ ps)) (keys_rise (q ∷ ps)) keys in
    let low = and_parts (is_le (key_cmp p.key q.key)) (list_all (λ r. is_le (key_cmp p.key r.key)) ps) rise.0 in
    let more = and_parts (list_all (λ r. is_le (key_cmp q.key r.key)) ps) (keys_rise ps) rise.1 in
    (and_from _ _ low.1 more.1, by ps more.0 numbers low.0)
  where
    by : (ps : List Posting) → list_all (λ r. is_le (key_cmp q.key r.key)) ps ≡ true → numbers_rise (p ∷ q ∷ ps) ≡ true → is_le (key_cmp p.key q.key) ≡ true
        → numbers_rise (p ∷ ps) ≡ true
    by [] above numbers low = refl
    by (r ∷ ps) above numbers low =
        let orders = and_parts (is_before p q) (numbers_rise (q ∷ r ∷ ps)) numbers in
        let rest = and_parts (is_before q r) (numbers_rise (r ∷ ps)) orders.1 in
        let next = and_parts (is_le (key_cmp q.key r.key)) (list_all (λ r. is_le (key_cmp q.key r.key)) ps) above in
        and_from _ _ (before_through p q r low next.0 orders.0 rest.0) rest.1

-- those behind a posting that stays are swept
numbers_from : (o : ℕ) (p : Posting) (ps : List Posting) → keys_rise (p ∷ ps) ≡ true → numbers_rise (p ∷ ps) ≡ true
    → numbers_rise (p ∷ later_than o ps) ≡ true
numbers_from o p [] keys numbers = refl
numbers_from o p (q ∷ ps) keys numbers =
    let rise = and_parts (list_all (λ r. is_le (key_cmp p.key r.key)) (q ∷ ps)) (keys_rise (q ∷ ps)) keys in
    let orders = and_parts (is_before p q) (numbers_rise (q ∷ ps)) numbers in
    elim (cases_Bool (nat_lt o q.number)) [
      | inl is ↦
          let found : later_than o (q ∷ ps) ≡ q ∷ later_than o ps = grind (arith, is) in
          subst (λ l. numbers_rise (p ∷ l) ≡ true) (sym found) (and_from _ _ orders.0 (numbers_from o q ps rise.1 orders.1))
      | inr isnt ↦
          let gone : later_than o (q ∷ ps) ≡ later_than o ps = grind (arith, isnt) in
          let rest = without_second p q ps keys numbers in
          subst (λ l. numbers_rise (p ∷ l) ≡ true) (sym gone) (numbers_from o p ps rest.0 rest.1)
    ]

pub numbers_later : (o : ℕ) (ps : List Posting) → keys_rise ps ≡ true → numbers_rise ps ≡ true → numbers_rise (later_than o ps) ≡ true
numbers_later o [] keys numbers = refl
numbers_later o (p ∷ ps) keys numbers =
    let rise = and_parts (list_all (λ r. is_le (key_cmp p.key r.key)) ps) (keys_rise ps) keys in
    elim (cases_Bool (nat_lt o p.number)) [
      | inl is ↦
          let found : later_than o (p ∷ ps) ≡ p ∷ later_than o ps = grind (arith, is) in
          subst (λ l. numbers_rise l ≡ true) (sym found) (numbers_from o p ps keys numbers)
      | inr isnt ↦
          let gone : later_than o (p ∷ ps) ≡ later_than o ps = grind (arith, isnt) in
          subst (λ l. numbers_rise l ≡ true) (sym gone) (numbers_later o ps rise.1 (numbers_behind p ps numbers))
    ]

-- ---- none makes the next redundant

pub spaced_behind : (reach : Reach) (p : Posting) (ps : List Posting) → are_spaced reach (p ∷ ps) ≡ true → are_spaced reach ps ≡ true
spaced_behind reach p [] h = refl
spaced_behind reach p (q ∷ ps) h = (and_parts (not (is_redundant reach p q)) (are_spaced reach (q ∷ ps)) h).1

-- a posting makes none of another key redundant
spaced_apart : (reach : Reach) (p : Posting) (ps : List Posting) → list_all (λ q. is_lt (key_cmp p.key q.key)) ps ≡ true → are_spaced reach ps ≡ true
    → are_spaced reach (p ∷ ps) ≡ true
spaced_apart reach p [] above spaced = refl
spaced_apart reach p (q ∷ ps) above spaced =
    let parts = and_parts (is_lt (key_cmp p.key q.key)) (list_all (λ q. is_lt (key_cmp p.key q.key)) ps) above in
    let other = not_same p.key q.key parts.0 in
    and_from _ _ (grind (arith, other)) spaced

-- What is dropped of a key is its beginning, so behind a posting that stays none of its key is dropped.
spaced_from : (reach : Reach) (o : ℕ) (p : Posting) (ps : List Posting) → o < p.number → keys_rise (p ∷ ps) ≡ true → numbers_rise (p ∷ ps) ≡ true
    → are_spaced reach (p ∷ ps) ≡ true → are_spaced reach (p ∷ later_than o ps) ≡ true
spaced_from reach o p [] late keys numbers spaced = refl
spaced_from reach o p (q ∷ ps) late keys numbers spaced =
    let rise = and_parts (list_all (λ r. is_le (key_cmp p.key r.key)) (q ∷ ps)) (keys_rise (q ∷ ps)) keys in
    let low = and_parts (is_le (key_cmp p.key q.key)) (list_all (λ r. is_le (key_cmp p.key r.key)) ps) rise.0 in
    let more = and_parts (list_all (λ r. is_le (key_cmp q.key r.key)) ps) (keys_rise ps) rise.1 in
    let orders = and_parts (is_before p q) (numbers_rise (q ∷ ps)) numbers in
    let needed = and_parts (not (is_redundant reach p q)) (are_spaced reach (q ∷ ps)) spaced in
    elim (cases_Bool (nat_lt o q.number)) [
      | inl is ↦
          let found : later_than o (q ∷ ps) ≡ q ∷ later_than o ps = grind (arith, is) in
          let after : o < q.number = grind (arith, nat_tests, is) in
          subst (λ l. are_spaced reach (p ∷ l) ≡ true) (sym found) (and_from _ _ needed.0 (spaced_from reach o q ps after rise.1 orders.1 needed.1))
      | inr isnt ↦
          let gone : later_than o (q ∷ ps) ≡ later_than o ps = grind (arith, isnt) in
          let rest = without_second p q ps keys numbers in
          let order = orders.0 in
          let other : is_same_key p.key q.key ≡ false = grind (arith, nat_tests, isnt, late, order) in
          let above = all_above p.key q.key ps (apart p.key q.key low.0 other) more.0 in
          subst (λ l. are_spaced reach (p ∷ l) ≡ true) (sym gone)
          (spaced_from reach o p ps late rest.0 rest.1 (spaced_apart reach p ps above (spaced_behind reach q ps needed.1)))
    ]

pub spaced_later : (reach : Reach) (o : ℕ) (ps : List Posting) → keys_rise ps ≡ true → numbers_rise ps ≡ true → are_spaced reach ps ≡ true
    → are_spaced reach (later_than o ps) ≡ true
spaced_later reach o [] keys numbers spaced = refl
spaced_later reach o (p ∷ ps) keys numbers spaced =
    let rise = and_parts (list_all (λ r. is_le (key_cmp p.key r.key)) ps) (keys_rise ps) keys in
    elim (cases_Bool (nat_lt o p.number)) [
      | inl is ↦
          let found : later_than o (p ∷ ps) ≡ p ∷ later_than o ps = grind (arith, is) in
          let late : o < p.number = grind (arith, nat_tests, is) in
          subst (λ l. are_spaced reach l ≡ true) (sym found) (spaced_from reach o p ps late keys numbers spaced)
      | inr isnt ↦
          let gone : later_than o (p ∷ ps) ≡ later_than o ps = grind (arith, isnt) in
          subst (λ l. are_spaced reach l ≡ true) (sym gone) (spaced_later reach o ps rise.1 (numbers_behind p ps numbers) (spaced_behind reach p ps spaced))
    ]

-- ---- each key once

-- the first key is below those of all others
once_parts : (p : Posting) (ps : List Posting) → keys_come_once (p ∷ ps) ≡ true
    → (list_all (λ q. is_lt (key_cmp p.key q.key)) ps ≡ true) × (keys_come_once ps ≡ true)
once_parts p ps h =
    let parts = and_parts _ (keys_come_once ps) h in
    (sym (list_all-map (λ j. is_lt (key_cmp p.key j)) (λ (q : Posting). q.key) ps) ∙ parts.0, parts.1)

pub once_later : (o : ℕ) (ps : List Posting) → keys_come_once ps ≡ true → keys_come_once (later_than o ps) ≡ true
once_later o [] h = refl
once_later o (p ∷ ps) h =
    let parts = once_parts p ps h in
    let rest = once_later o ps parts.1 in
    elim (cases_Bool (nat_lt o p.number)) [
      | inl is ↦
          let found : later_than o (p ∷ ps) ≡ p ∷ later_than o ps = grind (arith, is) in
          let below = all_later (λ q. is_lt (key_cmp p.key q.key)) o ps parts.0 in
          let keys = list_all-map (λ j. is_lt (key_cmp p.key j)) (λ (q : Posting). q.key) (later_than o ps) in
          ap keys_come_once found ∙ and_from _ _ (keys ∙ below) rest
      | inr isnt ↦
          let gone : later_than o (p ∷ ps) ≡ later_than o ps = grind (arith, isnt) in
          ap keys_come_once gone ∙ rest
    ]

pub all_le : (k : Bytes) (ps : List Posting) → list_all (λ q. is_lt (key_cmp k q.key)) ps ≡ true → list_all (λ q. is_le (key_cmp k q.key)) ps ≡ true
all_le k [] h = refl
all_le k (q ∷ ps) h = let parts = and_parts (is_lt (key_cmp k q.key)) (list_all (λ q. is_lt (key_cmp k q.key)) ps) h in
    and_from _ _ (le_of_lt k q.key parts.0) (all_le k ps parts.1)

pub once_rises : (ps : List Posting) → keys_come_once ps ≡ true → keys_rise ps ≡ true
once_rises [] h = refl
once_rises (p ∷ ps) h = let parts = once_parts p ps h in
    and_from _ _ (all_le p.key ps parts.0) (once_rises ps parts.1)

pub once_numbers : (ps : List Posting) → keys_come_once ps ≡ true → numbers_rise ps ≡ true
once_numbers [] h = refl
once_numbers (p ∷ []) h = refl
once_numbers (p ∷ q ∷ ps) h =
    let parts = once_parts p (q ∷ ps) h in
    let lt = and_parts (is_lt (key_cmp p.key q.key)) (list_all (λ q. is_lt (key_cmp p.key q.key)) ps) parts.0 in
    let other = not_same p.key q.key lt.0 in
    and_from _ _ (grind (arith, other)) (once_numbers (q ∷ ps) parts.1)

pub once_spaced : (reach : Reach) (ps : List Posting) → keys_come_once ps ≡ true → are_spaced reach ps ≡ true
once_spaced reach [] h = refl
once_spaced reach (p ∷ ps) h =
    let parts = once_parts p ps h in
    spaced_apart reach p ps parts.0 (once_spaced reach ps parts.1)

-- ---- who may ask

asks_among : (were : Reach) (bs : List ℕ) (b : ℕ) → AllByRecursion (λ n. may_ask were n ≡ true) bs → list_any (λ n. n == b) bs ≡ true
    → may_ask were b ≡ true
asks_among were [] b all h = cc
asks_among were (n ∷ bs) b all h = let here = all.0 in grind (arith, nat_tests, here, asks_among were bs b all.1)

-- one who may ask might ask then
asked_then : (were old : Reach) (b : ℕ) → IsWithin were old → may_ask old b ≡ true → may_ask were b ≡ true
asked_then were old b within asks = let low = within.since in grind (arith, nat_tests, asks_among were old.begins b within.begins)

all_asked : (were old : Reach) (bs : List ℕ) → IsWithin were old → AllByRecursion (λ b. may_ask old b ≡ true) bs
    → AllByRecursion (λ b. may_ask were b ≡ true) bs
all_asked were old [] within all = tt
all_asked were old (b ∷ bs) within all = (asked_then were old b within all.0, all_asked were old bs within all.1)

-- those who may ask in the end might in the beginning
pub within_within : (were old new : Reach) → IsWithin were old → IsWithin old new → IsWithin were new
within_within were old new within more = record {
  since = omega (arith, within.since, more.since);
  begins = all_asked were old new.begins within more.begins;
}

pub within_itself : (reach : Reach) → IsWithin reach reach
within_itself reach = record { since = omega arith; begins = all_in reach.begins (λ b h. grind (arith, h)) }
  where
    all_in : (bs : List ℕ) → ((b : ℕ) → list_any (λ n. n == b) bs ≡ true → may_ask reach b ≡ true) → AllByRecursion (λ b. may_ask reach b ≡ true) bs
    all_in [] h = tt
    all_in (b ∷ bs) h = (h b (grind (arith, nat_tests)), all_in bs (λ n is. h n (grind (arith, is))))
