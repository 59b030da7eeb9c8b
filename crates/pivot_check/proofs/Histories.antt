-- What is kept decides the verdict over the whole history, and stays what is kept of it.
use Rattle.model.specs.declared.refusals.Refusal.TheVariants as refusal
use Rattle.std.proofs.Common.{◌≡◌, ℕ, ◌+◌, ◌<◌, ◌≤◌, Bool, true, cond, ◌&&◌, List, [], ◌∷◌, ◌++◌, Option, Some, None}
use Rattle.std.proofs.Common.{refl, sym, ap, ◌∙◌, length, map, arith}
use Rattle.std.proofs.lemmas.Bool.{or_left, lt-ltb, ltb-true, false_from_ne_true}
use Rattle.std.proofs.lemmas.Bool.Decides.{nat_tests}
use Rattle.std.proofs.lemmas.Grind.{common_steps}
use Rattle.std.proofs.lemmas.List.{map-append}
use Rattle.std.proofs.lemmas.List.Elements.{All-append, All-contains, All-from_recursion, filter-append}
use Rattle.std.specs.List.{list_any, filter, AllByRecursion}
use Rattle.std.specs.Option.{option_map}
use Rattle.std.specs.Prelude.{nat_lt, find, All}
use Rattle.model.proofs.Elements.{all-filter}
use Rattle.model.proofs.Machines.{in_append_cases, numbered-append, commit_low, clear_from}
use Rattle.model.proofs.Members.{In, at_in, each_in, Contains-from_in, in_from_Contains, IsRising}
use Rattle.model.proofs.Members.{rising_from_numbered}
use Rattle.model.proofs.Pivots.{any_filter, any_same, find_alike, find_same, read_write_kept, has_earlier_target}
use Rattle.model.proofs.Pivots.{stands_between, earlier_target-push, own_earlier_target, verdict_by_kept}
use Rattle.model.specs.Dependency.{writes_key, concurrent_read_write}
use Rattle.model.specs.History.{Record, IsNumberedFrom}
use Rattle.model.specs.Map.{Bytes, is_same_key}
use Rattle.model.specs.PrivateCopy.{is_covered}
use Rattle.model.specs.Verdict.{verdict, conflict_of, pivot_refusal, is_overwritten, HasNoDangerousPivot}
use Rattle.snapshot.specs.View.{View}
use Rattle.pivot_check.proofs.Ends.{number_of, by_ends}
use Rattle.pivot_check.proofs.Lists.{any-map, find-map, filter-map, last_that-map, last_that_same, map_same}
use Rattle.pivot_check.specs.Kept.{KeptRecord, Facts, key_of, keys_of, is_key_written, leads_to, follows}
use Rattle.pivot_check.specs.Kept.{becomes_pivot, first_number, last_that, last_number, are_in_order, is_own_pivot}
use Rattle.pivot_check.specs.Kept.{own_record, IsInReach}
use Rattle.pivot_check.specs.StandsFor.{StandsFor, IsRecordOf, kept_of, kept_above}

in_filter : {X : Type 0} (p : X → Bool) (xs : List X) (x : X) → In x (filter p xs) → In x xs × (p x ≡ true)
in_filter p [] x h = absurd h
in_filter p (y ∷ ys) x h = grind (arith, common_steps, in_filter p ys x)

rising_filter : (p : Record → Bool) (rs : List Record) → IsRising rs → IsRising (filter p rs)
rising_filter p [] rise = tt
rising_filter p (r ∷ rs) rise =
    grind (arith, rising_filter p rs rise.1, all-filter (λ s. r.commit < s.commit) p rs rise.0)

pub history_rises : (b n : ℕ) (rs : List Record) → IsNumberedFrom n rs → IsRising (filter (λ p. nat_lt b p.commit) rs)
history_rises b n rs numbered = rising_filter (λ p. nat_lt b p.commit) rs (rising_from_numbered n rs numbered)

filter_filter : (a b : ℕ) (rs : List Record) → a ≤ b → filter (λ p. nat_lt b p.commit) (filter (λ p. nat_lt a p.commit) rs) ≡ filter (λ p. nat_lt b p.commit) rs
filter_filter a b [] le = refl
filter_filter a b (r ∷ rs) le = grind (arith, nat_tests, filter_filter a b rs le)

-- what is kept above a later number
pub kept_later : (a b : ℕ) (history : List Record) → a ≤ b → filter (λ k. nat_lt b k.commit) (kept_above a history) ≡ kept_above b history
kept_later a b history le =
    filter-map (λ k. nat_lt b k.commit) (kept_of history) (filter (λ p. nat_lt a p.commit) history) ∙ ap (map (kept_of history)) (filter_filter a b history le)

refusal_of : (o : Option Record) → pivot_refusal o ≡ option_map refusal.Pivot (number_of o)
refusal_of o = grind arith

module _ (f : Facts) (history : List Record) (s : StandsFor f history) (t : View) (reach : IsInReach f t) (r : Record) (own : IsRecordOf t (f.last + 1) r) where
  -- those that are concurrent with the transaction
  abbrev late : List Record
  late = filter (λ p. nat_lt t.begin p.commit) history

  abbrev records : List KeptRecord
  records = kept_above t.begin history

  low : t.begin ≤ r.begin
  low = omega arith

  before_new : (p : Record) → In p history → p.commit < r.commit
  before_new p p_in = let below = at_in (λ u. u.commit ≤ 0 + length history) history p (commit_low 0 history s.numbered) p_in in omega arith

  begins_low : (p : Record) → In p history → p.begin < r.commit
  begins_low p p_in = let begun = All-contains (λ u. u.begin < u.commit) history p s.begun (Contains-from_in history p p_in) in omega (arith, before_new p p_in)

  into_new : (p : Record) → In p history → t.begin < p.commit → concurrent_read_write p r ≡ leads_to (kept_of history p) t
  into_new p p_in above =
      let keys = ap (list_any (λ w. is_covered p.reads w.0)) own.writes in
      grind (arith, nat_tests, begins_low p p_in, before_new p p_in, any-map (is_covered p.reads) key_of t.writes)

  from_new : (p : Record) → In p history → t.begin < p.commit → concurrent_read_write r p ≡ follows (kept_of history p) t
  from_new p p_in above =
      let keys = ap (λ ms. list_any (λ w. is_covered ms w.0) p.writes) own.reads in
      grind (arith, nat_tests, begins_low p p_in, before_new p p_in, any-map (is_covered t.marks) key_of p.writes)

  -- a test of concurrent records by what is kept of them
  module _ (test : Record → Bool) (passes : KeptRecord → Bool) (same : (p : Record) → In p history → t.begin < p.commit
      → test p ≡ passes (kept_of history p)) where
    alike : AllByRecursion (λ p. test p ≡ passes (kept_of history p)) late
    alike = each_in (λ p. test p
        ≡ passes (kept_of history p)) late (λ p p_in. let i =
        in_filter (λ p. nat_lt t.begin p.commit) history p p_in in same p i.0 (ltb-true t.begin p.commit i.1))

    any_kept : list_any test late ≡ list_any passes records
    any_kept = any_same test (λ p. passes (kept_of history p)) late alike ∙ sym (any-map passes (kept_of history) late)

    first_kept : number_of (find test late) ≡ first_number passes records
    first_kept =
        let found = find-map passes (kept_of history) late in
        ap number_of (find_same test (λ p. passes (kept_of history p)) late alike) ∙ grind arith

    last_kept : number_of (last_that test late) ≡ last_number passes records
    last_kept =
        let found = last_that-map passes (kept_of history) late in
        ap number_of (last_that_same test (λ p. passes (kept_of history p)) late alike) ∙ grind arith

  written : (k : Bytes) → is_overwritten late r k ≡ is_key_written records k
  written k =
      any_kept (λ p. writes_key p k
      && nat_lt r.begin p.commit) (λ q. list_any (is_same_key k) q.keys) (λ p p_in above. grind (arith, nat_tests, any-map (is_same_key k) key_of p.writes))

  overwritten : find (λ w. is_overwritten late r w.0) r.writes ≡ find (λ w. is_key_written records w.0) t.writes
  overwritten = find_alike (λ w. is_overwritten late r w.0) (λ w. is_key_written records w.0) (λ w. written w.0) r.writes
      ∙ ap (find (λ w. is_key_written records w.0)) own.writes

  between : stands_between late r ≡ is_own_pivot records t
  between = by_ends (λ x. concurrent_read_write x r) (λ y. concurrent_read_write r y) late (history_rises t.begin 0 history s.numbered)
      ∙ (λ i. are_in_order (first_kept (concurrent_read_write r) (λ k. follows k t) from_new i)
      (last_kept (λ x. concurrent_read_write x r) (λ k. leads_to k t) into_new i))

  first_pivot : pivot_refusal (find (λ p. concurrent_read_write r p && has_earlier_target history p) late)
      ≡ option_map refusal.Pivot (first_number (becomes_pivot t) records)
  first_pivot =
      refusal_of (find (λ p. concurrent_read_write r p && has_earlier_target history p) late)
      ∙ ap (option_map refusal.Pivot)
      (first_kept (λ p. concurrent_read_write r p
      && has_earlier_target history p) (becomes_pivot t) (λ p p_in above. ap (λ b. b && has_earlier_target history p) (from_new p p_in above)))

  -- the verdict over the whole history is one over what is kept
  pub verdict_is : verdict history r ≡ conflict_of (find (λ w. is_key_written records w.0) t.writes)
      (cond (is_own_pivot records t) (Some refusal.PivotSelf) (option_map refusal.Pivot (first_number (becomes_pivot t) records)))
  verdict_is = verdict_by_kept history r t.begin low before_new s.no_pivot
      ∙ (λ i. conflict_of (overwritten i) (cond (between i) (Some refusal.PivotSelf) (first_pivot i)))

  -- ---- the transaction commits
  pub flag_is : list_any (concurrent_read_write r) history ≡ list_any (λ k. follows k t) records
  flag_is =
      sym (any_filter (λ y. concurrent_read_write r y) (λ p. nat_lt t.begin p.commit)
      (λ y h. read_write_kept t.begin r y low (or_left (concurrent_read_write r y) _ h)) history)
      ∙ any_kept (concurrent_read_write r) (λ k. follows k t) from_new

  own_flag : has_earlier_target (history ++ r ∷ []) r ≡ list_any (λ k. follows k t) records
  own_flag = own_earlier_target history r before_new ∙ flag_is

  -- what is kept of the others stays as it is
  others_stay : kept_above f.oldest history ≡ map (kept_of (history ++ r ∷ [])) (filter (λ p. nat_lt f.oldest p.commit) history)
  others_stay = map_same (kept_of history) (kept_of (history ++ r ∷ [])) (filter (λ p. nat_lt f.oldest p.commit) history)
      (each_in (λ p. kept_of history p ≡ kept_of (history ++ r ∷ []) p) (filter (λ p. nat_lt f.oldest p.commit) history) (λ p p_in.
      let below = before_new p (in_filter (λ p. nat_lt f.oldest p.commit) history p p_in).0 in
      let flag = sym (earlier_target-push history r p (omega arith)) in
      (λ i. record { begin = p.begin; commit = p.commit; marks = p.reads; keys = keys_of p.writes; has_earlier_target = flag i })))

  own_kept : own_record records t (f.last + 1) ≡ kept_of (history ++ r ∷ []) r
  own_kept = sym (λ i. record {
    begin = own.begin i;
    commit = own.commit i;
    marks = own.reads i;
    keys = keys_of (own.writes i);
    has_earlier_target = own_flag i;
  })

  pub all_kept : kept_above f.oldest history ++ own_record records t (f.last + 1) ∷ [] ≡ kept_above f.oldest (history ++ r ∷ [])
  all_kept =
      let passes = lt-ltb f.oldest r.commit (omega arith) in
      let grown = filter-append (λ p. nat_lt f.oldest p.commit) history (r ∷ [])
      ∙ ap (λ b. filter (λ p. nat_lt f.oldest p.commit) history ++ cond b (r ∷ []) []) passes in
      (λ i. others_stay i ++ own_kept i ∷ [])
      ∙ sym (ap (map (kept_of (history ++ r ∷ []))) grown ∙ map-append (kept_of (history ++ r ∷ [])) (filter (λ p. nat_lt f.oldest p.commit) history) (r ∷ []))

  pub numbered : IsNumberedFrom 0 (history ++ r ∷ [])
  numbered = numbered-append 0 history r s.numbered (omega arith)

  pub begun : All (λ u. u.begin < u.commit) (history ++ r ∷ [])
  begun = All-append (λ u. u.begin < u.commit) history (r ∷ []) s.begun (All-from_recursion (λ u. u.begin < u.commit) (r ∷ []) (omega arith, tt))

  pub no_pivot : verdict history r ≡ None → HasNoDangerousPivot (history ++ r ∷ [])
  no_pivot clear p p_in = let free = clear_from history r clear in grind (arith, common_steps, in_append_cases, in_from_Contains, false_from_ne_true)
