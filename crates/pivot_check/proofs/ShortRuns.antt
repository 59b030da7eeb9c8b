-- Runs stay short as they are joined, moved, swept and added.
use Rattle.std.proofs.Common.{◌≡◌, ◌≤◌, ◌+◌, ℕ, Bool, true, false, List, [], ◌∷◌, ◌++◌, length, Option, None}
use Rattle.std.proofs.Common.{take, drop, refl, sym}
use Rattle.std.proofs.Common.{T, ap, ◌∙◌, subst, arith, inl, inr}
use Rattle.std.proofs.lemmas.Bool.{and_from, and_parts}
use Rattle.std.proofs.lemmas.Bool.Decides.{nat_tests}
use Rattle.std.proofs.lemmas.List.{append-nil, take-append-drop}
use Rattle.std.proofs.lemmas.List.Elements.{filter-append}
use Rattle.std.proofs.lemmas.List.Folds.{list_all-append}
use Rattle.std.specs.List.{AllByRecursion, list_all}
use Rattle.std.specs.Prelude.{map, nat_le, nat_lt, is_some, not}
use Rattle.std.specs.Cmp.Lexicographic.{slice_cmp}
use Rattle.std.specs.FinMap.Entries.{below_all, is_sorted}
use Rattle.std.specs.Ordering.{is_lt, nat_cmp}
use Rattle.last_readers.specs.declared.runs.TheConstants.{BEGINS_MAX}
use Rattle.merging_runs.specs.KeptRuns.{AreInOrder, AreSound}
use Rattle.model.proofs.Elements.{all-append, all-each}
use Rattle.model.proofs.Entries.{parts as both_true}
use Rattle.model.specs.Map.{Bytes, KeyWrite, key_cmp}
use Rattle.pivot_check.proofs.Joined.{none_left}
use Rattle.pivot_check.proofs.KeptShort.{numbers_later, once_later, once_numbers, spaced_later, within_within}
use Rattle.pivot_check.proofs.Sweeps.{all_later, all_parts, fewer_left, upto_later}
use Rattle.pivot_check.specs.Bounds.{are_from_bound}
use Rattle.pivot_check.specs.Inside.{in_run, number_bound, written_run_size}
use Rattle.pivot_check.specs.Kept.{keys_of}
use Rattle.pivot_check.specs.KeptShort.{AreKeptShort, AreOfCommit, IsKeptShort, NumbersRise, numbers_rise}
use Rattle.pivot_check.specs.Parts.{left, remaining}
use Rattle.pivot_check.specs.Postings.{Posting, are_upto, keys_come_once, keys_rise, later_than, least, postings_by}
use Rattle.pivot_check.specs.Postings.{postings_from, rise_strictly}
use Rattle.pivot_check.specs.Reach.{Reach}
use Rattle.pivot_check.specs.Redundant.{IsWithin, are_spaced}
use Rattle.pivot_check.specs.declared.bound.Bound.{Bound}
use Rattle.pivot_check.specs.declared.part.Part.{Part}
use Rattle.pivot_check.specs.declared.run.WrittenRun.{WrittenRun}

is_true : (b : Bool) → T b → b ≡ true
is_true true h = refl
is_true false h = elim h [ ]

-- ---- numbers

pub upto_wider : (last o : ℕ) (ps : List Posting) → last ≤ o → are_upto last ps ≡ true → are_upto o ps ≡ true
upto_wider last o [] le h = refl
upto_wider last o (p ∷ ps) le h = grind (arith, nat_tests, upto_wider last o ps le)

-- what none of the ones passes, none of the others does
none_of : (o : Option ℕ) → not (is_some o) ≡ true → o ≡ None
none_of o h = grind arith

pub upto_by : (last : ℕ) (ps qs : List Posting) → ((c : Posting → Bool) → least c ps ≡ None → least c qs ≡ None) → are_upto last ps ≡ true
    → are_upto last qs ≡ true
upto_by last ps qs by h = ap (λ o. not (is_some o)) (by (λ p. nat_lt last p.number) (none_of (least (λ p. nat_lt last p.number) ps) h))

from_bound : (n : ℕ) (b : Bound) (ps : List Posting) → n ≤ b.number → are_from_bound b ps ≡ true → postings_from n ps ≡ true
from_bound n b [] le h = refl
from_bound n b (p ∷ ps) le h = grind (arith, nat_tests, from_bound n b ps le)

from_drop : (n i : ℕ) (ps : List Posting) → postings_from n ps ≡ true → postings_from n (drop i ps) ≡ true
from_drop n i ps h =
    (and_parts _ _ (sym (list_all-append (λ p. nat_le n p.number) (take i ps) (drop i ps)) ∙ ap (postings_from n) (take-append-drop i ps) ∙ h)).1

-- the first of two lists
numbers_left : (xs ys : List Posting) → numbers_rise (xs ++ ys) ≡ true → numbers_rise xs ≡ true
numbers_left [] ys h = refl
numbers_left (x ∷ []) ys h = refl
numbers_left (x ∷ z ∷ xs) ys h = let parts = and_parts _ (numbers_rise (z ∷ (xs ++ ys))) h in and_from _ _ parts.0 (numbers_left (z ∷ xs) ys parts.1)

-- ---- a run that isn't being made of two

pub in_run_at_rest : (r : WrittenRun) → left r.first + left r.second ≡ 0 → in_run r ≡ remaining r.made
in_run_at_rest r rest =
    (λ i. remaining r.made ++ (none_left r.first (omega arith) i ++ none_left r.second (omega arith) i)) ∙ append-nil (remaining r.made)

made_rises : (r : WrittenRun) → NumbersRise (remaining r.made) (remaining r.first) (remaining r.second) → numbers_rise (remaining r.made) ≡ true
made_rises r rise = numbers_left (remaining r.made) (remaining r.first) rise.first_rises

-- a list alone
alone_rises : (made : List Posting) → numbers_rise made ≡ true → NumbersRise made [] []
alone_rises made h =
    let whole = ap numbers_rise (append-nil made) ∙ h in
    record { first_rises = whole; second_rises = whole; middle = 0; upto = refl; from = refl }

pub of_one_commit : (reach : Reach) (n : ℕ) (r : WrittenRun) (ps : List Posting) → left r.first + left r.second ≡ 0 → remaining r.made ≡ ps → AreOfCommit n ps
    → IsKeptShort reach r
of_one_commit reach n r ps rest made commit =
    let once = ap keys_come_once made ∙ commit.once in
    let first = none_left r.first (omega (arith, rest)) in
    let second = none_left r.second (omega (arith, rest)) in
    record {
      numbers = subst (λ l. NumbersRise (remaining r.made) l (remaining r.second)) (sym first)
          (subst (λ l. NumbersRise (remaining r.made) [] l) (sym second) (alone_rises (remaining r.made) (once_numbers (remaining r.made) once)));
      kept = inl (record { rest = rest; once = once });
    }

-- ---- of two runs one is being made

pub joined_numbers : (was more : WrittenRun) (made first : Part) → left was.first + left was.second ≡ 0 → left made ≡ 0 → first ≡ was.made
    → was.last ≤ number_bound more → NumbersRise (remaining was.made) (remaining was.first) (remaining was.second)
    → NumbersRise (remaining more.made) (remaining more.first) (remaining more.second) → NumbersRise (remaining made) (remaining first) (remaining more.made)
joined_numbers was more made first rest none same before rise rises =
    let nothing = none_left made none in
    let is : remaining first ≡ in_run was = ap remaining same ∙ sym (in_run_at_rest was rest) in
    let all = from_bound was.last more.made.bound more.made.written.items (omega (arith, before)) more.made.bounded in
    record {
      first_rises = (λ i. numbers_rise (nothing i ++ remaining (same i))) ∙ made_rises was rise;
      second_rises = ap (λ l. numbers_rise (l ++ remaining more.made)) nothing ∙ made_rises more rises;
      middle = was.last;
      upto = ap (are_upto was.last) is ∙ was.upto;
      from = from_drop was.last more.made.start more.made.written.items all;
    }

-- ---- a sweep

pub swept_numbers : (o : ℕ) (made first second made_then first_then second_then : List Posting) → made_then ≡ later_than o made
    → first_then ≡ later_than o first → second_then ≡ later_than o second → keys_rise (made ++ first) ≡ true → keys_rise (made ++ second) ≡ true
    → NumbersRise made first second → NumbersRise made_then first_then second_then
swept_numbers o made first second made_then first_then second_then made_is first_is second_is keys more_keys rise = record {
  first_rises = (λ i. numbers_rise (made_is i ++ first_is i)) ∙ both first keys rise.first_rises;
  second_rises = (λ i. numbers_rise (made_is i ++ second_is i)) ∙ both second more_keys rise.second_rises;
  middle = rise.middle;
  upto = ap (are_upto rise.middle) first_is ∙ upto_later rise.middle o first rise.upto;
  from = ap (postings_from rise.middle) second_is ∙ all_later (λ p. nat_le rise.middle p.number) o second rise.from;
}
  where
    both : (xs : List Posting) → keys_rise (made ++ xs) ≡ true → numbers_rise (made ++ xs) ≡ true → numbers_rise (later_than o made ++ later_than o xs) ≡ true
    both xs keys numbers = ap numbers_rise (sym (filter-append (λ p. nat_lt o p.number) made xs)) ∙ numbers_later o (made ++ xs) keys numbers

pub swept_short : (reach : Reach) (o : ℕ) (was new : WrittenRun) → remaining new.made ≡ later_than o (remaining was.made)
    → remaining new.first ≡ later_than o (remaining was.first) → remaining new.second ≡ later_than o (remaining was.second) → IsKeptShort reach was
    → IsKeptShort reach new
swept_short reach o was new made first second short = record {
  numbers = swept_numbers o (remaining was.made) (remaining was.first) (remaining was.second) (remaining new.made) (remaining new.first)
      (remaining new.second) made first second was.first_rises was.second_rises short.numbers;
  kept = elim short.kept [
    | inl one ↦ inl (record {
      rest = omega (arith, one.rest, fewer_left o was.first new.first first, fewer_left o was.second new.second second);
      once = ap keys_come_once made ∙ once_later o (remaining was.made) one.once;
    })
    | inr were ↦ inr (record {
      were = were.were;
      few = were.few;
      within = were.within;
      upto = ap (are_upto were.were.since)
          (all_parts o (remaining was.made) (remaining was.first) (remaining was.second) (remaining new.made) (remaining new.first) (remaining new.second)
          made first second) ∙ upto_later were.were.since o (in_run was) were.upto;
      spaced = ap (are_spaced were.were) made
          ∙ spaced_later were.were o (remaining was.made) was.made.rising (made_rises was short.numbers) were.spaced;
    })
  ];
}

-- ---- the reach of others, who might ask before

pub narrowed_short : (old new : Reach) (r : WrittenRun) → IsWithin old new → IsKeptShort old r → IsKeptShort new r
narrowed_short old new r within short = record {
  numbers = short.numbers;
  kept = elim short.kept [
    | inl one ↦ inl one
    | inr were ↦ inr (record {
      were = were.were;
      few = were.few;
      within = within_within were.were old new were.within within;
      upto = were.upto;
      spaced = were.spaced;
    })
  ];
}

-- ---- all runs

pub narrowed_runs : (old new : Reach) (last : ℕ) (rs : List WrittenRun) → IsWithin old new → AreKeptShort old last rs → AreKeptShort new last rs
narrowed_runs old new last rs within kept = record {
  each = all-each (IsKeptShort old) (IsKeptShort new) rs (λ r. narrowed_short old new r within) kept.each;
  upto = kept.upto;
  order = kept.order;
}

-- a greater number is one that none is above, too
pub upto_more : (reach : Reach) (before last : ℕ) (rs : List WrittenRun) → before ≤ last → AreKeptShort reach before rs → AreKeptShort reach last rs
upto_more reach before last rs le kept = record {
  each = kept.each;
  upto = all-each (λ r. r.last ≤ before) (λ r. r.last ≤ last) rs (λ r h. omega (arith, h, le)) kept.upto;
  order = kept.order;
}

order_added : (before : ℕ) (rs : List WrittenRun) (r : WrittenRun) → before ≤ number_bound r → AllByRecursion (λ s. s.last ≤ before) rs
    → AreInOrder number_bound written_run_size rs → AreInOrder number_bound written_run_size (rs ++ r ∷ [])
order_added before [] r le upto order = (tt, tt)
order_added before (s ∷ rs) r le upto order =
    let here = upto.0 in
    (all-append (λ t. s.last ≤ number_bound t) rs (r ∷ []) order.0 (omega (arith, here, le), tt), order_added before rs r le upto.1 order.1)

pub added_runs : (reach : Reach) (before last : ℕ) (rs : List WrittenRun) (r : WrittenRun) → before ≤ last → r.last ≡ last → before ≤ number_bound r
    → IsKeptShort reach r → AreKeptShort reach before rs → AreKeptShort reach last (rs ++ r ∷ [])
added_runs reach before last rs r le is from short kept = record {
  each = all-append (IsKeptShort reach) rs (r ∷ []) kept.each (short, tt);
  upto = all-append (λ s. s.last ≤ last) rs (r ∷ []) (upto_more reach before last rs le kept).upto (omega (arith, is), tt);
  order = order_added before rs r from kept.upto kept.order;
}

-- where those may ask whom `holds` tells of
pub told_runs : (reach : Reach) (few : length reach.begins ≤ BEGINS_MAX) (last : ℕ) (rs : List WrittenRun) → AreKeptShort reach last rs
    → AreSound (λ r. length reach.begins ≤ BEGINS_MAX → IsKeptShort reach r) number_bound written_run_size last rs
told_runs reach few last rs kept = record {
  each = all-each (IsKeptShort reach) (λ r. length reach.begins ≤ BEGINS_MAX → IsKeptShort reach r) rs (λ r h. λ _. h) kept.each;
  upto = kept.upto;
  order = kept.order;
}

pub runs_told : (reach : Reach) (few : length reach.begins ≤ BEGINS_MAX) (last : ℕ) (rs : List WrittenRun)
    → AreSound (λ r. length reach.begins ≤ BEGINS_MAX → IsKeptShort reach r) number_bound written_run_size last rs → AreKeptShort reach last rs
runs_told reach few last rs kept = record {
  each = all-each (λ r. length reach.begins ≤ BEGINS_MAX → IsKeptShort reach r) (IsKeptShort reach) rs (λ r h. h few) kept.each;
  upto = kept.upto;
  order = kept.order;
}

-- what all runs keep where they keep what `holds` tells of
pub runs_stay : (reach : Reach) (last : ℕ) (was is : List WrittenRun) → length reach.begins ≤ BEGINS_MAX
    → (AreSound (λ r. length reach.begins ≤ BEGINS_MAX → IsKeptShort reach r) number_bound written_run_size last was
    → AreSound (λ r. length reach.begins ≤ BEGINS_MAX → IsKeptShort reach r) number_bound written_run_size last is)
    → AreKeptShort reach last was → AreKeptShort reach last is
runs_stay reach last was is few stay kept = runs_told reach few last is (stay (told_runs reach few last was kept))

-- ---- what a commit has written

written_keys : (n : ℕ) (flag : Bool) (ks : List Bytes) → map (λ p. p.key) (postings_by n flag ks) ≡ ks
written_keys n flag [] = refl
written_keys n flag (k ∷ ks) = ap (λ l. k ∷ l) (written_keys n flag ks)

-- all have its number
written_upto : (n : ℕ) (flag : Bool) (ks : List Bytes) → are_upto n (postings_by n flag ks) ≡ true
written_upto n flag [] = refl
written_upto n flag (k ∷ ks) = grind (arith, nat_tests, written_upto n flag ks)

written_from : (n : ℕ) (flag : Bool) (ks : List Bytes) → postings_from n (postings_by n flag ks) ≡ true
written_from n flag [] = refl
written_from n flag (k ∷ ks) = grind (arith, nat_tests, written_from n flag ks)

pub commit_by : (n : ℕ) (flag : Bool) (ks : List Bytes) → rise_strictly ks ≡ true → AreOfCommit n (postings_by n flag ks)
commit_by n flag ks h = record {
  once = ap rise_strictly (written_keys n flag ks) ∙ h;
  upto = written_upto n flag ks;
  from = written_from n flag ks;
}

below_each : (k : Bytes) (ws : List KeyWrite) → T (below_all (slice_cmp nat_cmp) k ws) → list_all (λ j. is_lt (key_cmp k j)) (keys_of ws) ≡ true
below_each k [] h = refl
below_each k (w ∷ ws) h =
    let split = both_true (is_lt (key_cmp k w.0)) (below_all (slice_cmp nat_cmp) k ws) h in
    and_from _ _ (is_true (is_lt (key_cmp k w.0)) split.0) (below_each k ws split.1)

-- the keys of a transaction rise strictly
pub keys_strict : (ws : List KeyWrite) → T (is_sorted (slice_cmp nat_cmp) ws) → rise_strictly (keys_of ws) ≡ true
keys_strict [] h = refl
keys_strict (w ∷ ws) h =
    let split = both_true (below_all (slice_cmp nat_cmp) w.0 ws) (is_sorted (slice_cmp nat_cmp) ws) h in
    and_from _ _ (below_each w.0 ws split.0) (keys_strict ws split.1)

pub length_by : (n : ℕ) (flag : Bool) (ks : List Bytes) → length (postings_by n flag ks) ≡ length ks
length_by n flag [] = refl
length_by n flag (k ∷ ks) = grind (arith, length_by n flag ks)
