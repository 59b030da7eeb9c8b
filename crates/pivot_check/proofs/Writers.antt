-- What is asked of records through the postings of the keys that they wrote.
use Rattle.std.proofs.Common.{◌≡◌, ◌≤◌, ◌<◌, ℕ, Bool, true, false, cond, ◌&&◌, ◌||◌, List, [], ◌∷◌, ◌++◌, Option}
use Rattle.std.proofs.Common.{Some, None, refl, sym, ap, ◌∙◌, arith}
use Rattle.std.proofs.lemmas.Bool.{and_from, and_parts, le-leb, leb-true}
use Rattle.std.proofs.lemmas.Bool.Decides.{nat_tests}
use Rattle.std.proofs.lemmas.List.Elements.{filter-append}
use Rattle.std.specs.List.{list_any, filter, AllByRecursion}
use Rattle.std.specs.Option.{option_map}
use Rattle.std.specs.Prelude.{nat_le, nat_lt, is_some, not}
use Rattle.model.proofs.Pivots.{find_alike}
use Rattle.model.specs.Map.{Bytes, is_same_key}
use Rattle.model.specs.PrivateCopy.{is_covered}
use Rattle.model.specs.PrivateCopy.Mark.{OfKey}
use Rattle.snapshot.specs.View.{View}
use Rattle.pivot_check.specs.Agreeing.{lesser_none, lesser_assoc, least-append}
use Rattle.pivot_check.specs.Kept.{KeptRecord, Reach, first_number, follows, becomes_pivot, is_key_written, may_ask}
use Rattle.pivot_check.specs.Postings.{AnswerAs, Posting, asked_in, postings_by, least, lesser, asked_of, covered_of}
use Rattle.pivot_check.specs.StandsFor.{postings_of, all_postings, AreWriters}

-- the records stand by rising commit number
abbrev pub IsRising : List KeptRecord → Type 0
IsRising [] = Unit {0}
IsRising (r ∷ rs) = AllByRecursion (λ s. r.commit < s.commit) rs × IsRising rs

-- ---- the lesser number

pub lesser_comm : (o p : Option ℕ) → lesser o p ≡ lesser p o
lesser_comm o p = grind arith

-- ---- the least number of postings

pub least_alike : (c d : Posting → Bool) → ((p : Posting) → c p ≡ d p) → (ps : List Posting) → least c ps ≡ least d ps
least_alike c d same [] = refl
least_alike c d same (p ∷ ps) = λ i. lesser (cond (same p i) (Some p.number) None) (least_alike c d same ps i)

all_postings-push : (c : Posting → Bool) (rs : List KeptRecord) (r : KeptRecord)
    → least c (all_postings (rs ++ r ∷ [])) ≡ lesser (least c (all_postings rs)) (least c (postings_of r))
all_postings-push c [] r = least-append c (postings_of r) [] ∙ lesser_none (least c (postings_of r))
all_postings-push c (s ∷ rs) r =
    grind (arith, lesser_assoc, least-append c (postings_of s), all_postings-push c rs r)

-- ---- forgetting

pub least-filter : (c q : Posting → Bool) (ps : List Posting) → least c (filter q ps) ≡ least (λ p. q p && c p) ps
least-filter c q [] = refl
least-filter c q (p ∷ ps) = grind (arith, least-filter c q ps)

postings_pass : (o n : ℕ) (flag : Bool) (ks : List Bytes)
    → filter (λ p. nat_lt o p.number) (postings_by n flag ks) ≡ cond (nat_lt o n) (postings_by n flag ks) []
postings_pass o n flag [] = grind arith
postings_pass o n flag (k ∷ ks) = grind (arith, postings_pass o n flag ks)

all_pass : (o : ℕ) (rs : List KeptRecord) → filter (λ p. nat_lt o p.number) (all_postings rs) ≡ all_postings (filter (λ r. nat_lt o r.commit) rs)
all_pass o [] = refl
all_pass o (r ∷ rs) =
    grind (arith, postings_pass o r.commit r.has_earlier_target r.keys, all_pass o rs, filter-append (λ p. nat_lt o p.number) (postings_of r))

-- a test that passes numbers above b alone needs no other that they are above o
above_both : (o b n : ℕ) → o ≤ b → (x y : Bool) → (nat_lt o n && (x && (nat_lt b n && y))) ≡ (x && (nat_lt b n && y))
above_both o b n le x y = grind (arith, nat_tests)

-- those up to a number that it didn't begin before are not asked for
pub asked_above : (o b : ℕ) (keys : Bytes → Bool) (flagged : Bool) (ps : List Posting) → o ≤ b
    → least (asked_in keys b flagged) (filter (λ p. nat_lt o p.number) ps) ≡ least (asked_in keys b flagged) ps
asked_above o b keys flagged ps le =
    least-filter (asked_in keys b flagged) (λ p. nat_lt o p.number) ps
    ∙ least_alike (λ p. nat_lt o p.number && asked_in keys b flagged p) (asked_in keys b flagged)
    (λ p. above_both o b p.number le (keys p.key) (p.has_earlier_target || not flagged)) ps

pub forgotten : (reach : Reach) (o newer : ℕ) (ps qs : List Posting) (rs : List KeptRecord) → AreWriters reach o ps rs → o ≤ newer
    → AnswerAs (nat_le newer) qs ps → AreWriters reach newer qs (filter (λ r. nat_lt newer r.commit) rs)
forgotten reach o newer ps qs rs are le same b asks keys flagged =
    let parts = and_parts _ _ asks in
    let low = leb-true newer b parts.0 in
    same b parts.0 keys flagged
    ∙ are b (and_from _ _ (le-leb o b (omega (arith, le, low))) parts.1) keys flagged
    ∙ sym (asked_above newer b keys flagged (all_postings rs) low)
    ∙ ap (least (asked_in keys b flagged)) (all_pass newer rs)

pub noted : (reach : Reach) (o : ℕ) (ps qs : List Posting) (rs : List KeptRecord) (r : KeptRecord) → AreWriters reach o ps rs
    → ((c : Posting → Bool) → least c qs ≡ lesser (least c ps) (least c (postings_of r))) → AreWriters reach o qs (rs ++ r ∷ [])
noted reach o ps qs rs r are added b asks keys flagged =
    let c = asked_in keys b flagged in
    added c ∙ ap (λ n. lesser n (least c (postings_of r))) (are b asks keys flagged) ∙ sym (all_postings-push c rs r)

-- no number of them is above their own
pub by_upto : (n : ℕ) (flag : Bool) (ks : List Bytes) → least (λ p. nat_lt n p.number) (postings_by n flag ks) ≡ None
by_upto n flag [] = refl
by_upto n flag (k ∷ ks) = grind (arith, nat_tests, by_upto n flag ks)

-- ---- the first record

module _ (d : Bytes → Bool) (e : Bool → Bool) (b : ℕ) where
  abbrev asks : Posting → Bool
  asks p = d p.key && (nat_lt b p.number && e p.has_earlier_target)

  of_record : (n : ℕ) (flag : Bool) (ks : List Bytes) → least asks (postings_by n flag ks) ≡ cond (list_any d ks && (nat_lt b n && e flag)) (Some n) None
  of_record n flag [] = refl
  of_record n flag (k ∷ ks) = grind (arith, of_record n flag ks)

  abbrev passes : KeptRecord → Bool
  passes r = list_any d r.keys && e r.has_earlier_target

  abbrev after_b : List KeptRecord → List KeptRecord
  after_b rs = filter (λ r. nat_lt b r.commit) rs

  -- none is found with a number that all are above
  found_above : (n : ℕ) (rs : List KeptRecord) → AllByRecursion (λ s. n < s.commit) rs → (m : ℕ) → first_number passes (after_b rs) ≡ Some m → n < m
  found_above n [] above m is = cc
  found_above n (r ∷ rs) above m is = let low = above.0 in grind (arith, found_above n rs above.1 m)

  -- of records by rising number the first that passes has the least
  of_all : (rs : List KeptRecord) → IsRising rs → least asks (all_postings rs) ≡ first_number passes (after_b rs)
  of_all [] rise = refl
  of_all (r ∷ rs) rise =
      grind (
        arith,
        found_above r.commit rs rise.0,
        of_all rs rise.1,
        of_record r.commit r.has_earlier_target r.keys,
        least-append asks (postings_of r) (all_postings rs),
      )

asked : (d : Bytes → Bool) (flagged : Bool) (b : ℕ) (reach : Reach) (o : ℕ) (ps : List Posting) (rs : List KeptRecord) → AreWriters reach o ps rs → o ≤ b
    → may_ask reach b ≡ true → IsRising rs
    → least (asked_in d b flagged) ps ≡ first_number (λ r. list_any d r.keys && (r.has_earlier_target || not flagged)) (filter (λ r. nat_lt b r.commit) rs)
asked d flagged b reach o ps rs are le asks rise =
    are b (and_from _ _ (le-leb o b le) asks) d flagged ∙ of_all d (λ flag. flag || not flagged) b rs rise

-- ---- the laws

-- the first that passes a test
first_alike : (p q : KeptRecord → Bool) → ((r : KeptRecord) → p r ≡ q r) → (rs : List KeptRecord) → first_number p rs ≡ first_number q rs
first_alike p q same rs = ap (option_map (λ (k : KeptRecord). k.commit)) (find_alike p q same rs)

-- the first that passes the test of keys
by_keys : (d : Bytes → Bool) (reach : Reach) (o b : ℕ) (ps : List Posting) (rs : List KeptRecord) → AreWriters reach o ps rs → o ≤ b
    → may_ask reach b ≡ true → IsRising rs →
    first_number (λ r. list_any d r.keys) (filter (λ r. nat_lt b r.commit) rs)
    ≡ least (λ p. d p.key && (nat_lt b p.number && (p.has_earlier_target || not false))) ps
by_keys d reach o b ps rs are le asks rise =
    first_alike (λ r. list_any d r.keys) (λ r. list_any d r.keys && (r.has_earlier_target || not false)) (λ r. grind arith) (filter (λ r. nat_lt b r.commit) rs)
    ∙ sym (asked d false b reach o ps rs are le asks rise)

pub any_is_found : (p : KeptRecord → Bool) (rs : List KeptRecord) → list_any p rs ≡ is_some (first_number p rs)
any_is_found p [] = refl
any_is_found p (r ∷ rs) = grind (arith, any_is_found p rs)

-- whether a record since number b has written the key
pub written : (reach : Reach) (o b : ℕ) (ps : List Posting) (rs : List KeptRecord) (k : Bytes) → AreWriters reach o ps rs → o ≤ b → may_ask reach b ≡ true
    → IsRising rs →
    is_key_written (filter (λ r. nat_lt b r.commit) rs) k ≡ is_some (least (asked_of (OfKey k) b false) ps)
written reach o b ps rs k are le asks rise =
    any_is_found (λ r. list_any (is_same_key k) r.keys) (filter (λ r. nat_lt b r.commit) rs)
    ∙ ap is_some (by_keys (is_same_key k) reach o b ps rs are le asks rise)

-- the first of them that has written what the marks cover
pub target : (reach : Reach) (o b : ℕ) (ps : List Posting) (rs : List KeptRecord) (t : View) → AreWriters reach o ps rs → o ≤ b → may_ask reach b ≡ true
    → IsRising rs →
    first_number (λ r. follows r t) (filter (λ r. nat_lt b r.commit) rs) ≡ least (covered_of t.marks b false) ps
target reach o b ps rs t are le asks rise = by_keys (is_covered t.marks) reach o b ps rs are le asks rise

-- the first of them that the transaction makes a dangerous pivot
pub pivot : (reach : Reach) (o b : ℕ) (ps : List Posting) (rs : List KeptRecord) (t : View) → AreWriters reach o ps rs → o ≤ b → may_ask reach b ≡ true
    → IsRising rs →
    first_number (becomes_pivot t) (filter (λ r. nat_lt b r.commit) rs) ≡ least (covered_of t.marks b true) ps
pivot reach o b ps rs t are le asks rise =
    first_alike (becomes_pivot t) (λ r. follows r t && (r.has_earlier_target || not true)) (λ r. grind arith) (filter (λ r. nat_lt b r.commit) rs)
    ∙ sym (asked (is_covered t.marks) true b reach o ps rs are le asks rise)
