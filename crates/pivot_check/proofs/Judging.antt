-- What is kept decides the verdict over the whole history, and goes on standing for it.
use Rattle.model.specs.declared.refusals.Refusal.TheVariants as refusal
use Rattle.std.proofs.Common.{◌≡◌, ◌≤◌, ◌<◌, ◌+◌, ℕ, Bool, true, false, cond, List, [], ◌∷◌, ◌++◌, Option, Some, None}
use Rattle.std.proofs.Common.{map, length, refl, sym, ap, subst, ◌∙◌, arith}
use Rattle.std.proofs.lemmas.Bool.{and_from, and_parts}
use Rattle.std.proofs.lemmas.Bool.Decides.{nat_tests}
use Rattle.std.proofs.lemmas.List.{length_push}
use Rattle.std.specs.List.{list_any, filter, position, AllByRecursion}
use Rattle.std.specs.Prelude.{nat_le, nat_lt, is_some, find, option_map, ◌&&◌}
use Rattle.model.proofs.Elements.{all-map}
use Rattle.model.proofs.Members.{IsRising as RecordsRise, rising_from_numbered}
use Rattle.model.proofs.Pivots.{find_alike}
use Rattle.model.specs.Dependency.{concurrent_read_write}
use Rattle.model.specs.History.{Record}
use Rattle.model.specs.Map.{Bytes, KeyWrite}
use Rattle.model.specs.PrivateCopy.{Mark}
use Rattle.model.specs.Verdict.{verdict, conflict_of}
use Rattle.model.specs.declared.refusals.Refusal.{Refusal}
use Rattle.last_readers.specs.Readers.{Readers, last_reader, IsNoted, IsForgotten}
use Rattle.snapshot.specs.View.{View}
use Rattle.pivot_check.proofs.Histories.{flag_is, history_rises, kept_later, verdict_is, all_kept, numbered, begun}
use Rattle.pivot_check.proofs.Histories.{no_pivot}
use Rattle.pivot_check.proofs.LastSources.{source_found, noted_readers, forgotten_readers}
use Rattle.pivot_check.proofs.Lists.{found_at, found_nowhere}
use Rattle.pivot_check.proofs.Writers.{IsRising, any_is_found, written as written_by, target as target_by}
use Rattle.pivot_check.proofs.Writers.{pivot as pivot_by, noted as writers_noted, forgotten as writers_forgotten}
use Rattle.pivot_check.specs.Index.{is_written_since, target, source, other_pivot, answer_found}
use Rattle.pivot_check.specs.Kept.{KeptRecord, Facts, keys_of, is_key_written, leads_to, follows, becomes_pivot}
use Rattle.pivot_check.specs.Kept.{first_number, last_number, are_in_order, own_record, IsInReach, Reach, asked_from}
use Rattle.pivot_check.specs.Kept.{may_ask}
use Rattle.pivot_check.specs.Postings.{AnswerAs, Posting, postings_by, least, lesser, covered_of}
use Rattle.pivot_check.specs.StandsFor.{StandsFor, IsRecordOf, Says, AreWriters, verdict_found, kept_of, kept_above}
use Rattle.pivot_check.specs.StandsFor.{IsCleared, IsClearedBy, IsVerdict}
use Rattle.pivot_check.specs.declared.verdict.Cleared.{Cleared}
use Rattle.pivot_check.specs.declared.verdict.Verdict.{Verdict}
use Rattle.pivot_check.specs.declared.verdict.Verdict.TheVariants.{Clear, Overwritten, PivotSelf, Pivot}

rising_map : (h rs : List Record) → RecordsRise rs → IsRising (map (kept_of h) rs)
rising_map h [] rise = tt
rising_map h (r ∷ rs) rise = (all-map (λ s. r.commit < s.commit) (kept_of h) rs rise.0, rising_map h rs rise.1)

-- who may ask once these alone may, and who begins now, might before
asked_before : (reach : Reach) (last : ℕ) (begins : List ℕ) → reach.since ≤ last → AllByRecursion (λ b. may_ask reach b ≡ true) begins → (b : ℕ)
    → may_ask (record { begins = begins; since = last }) b ≡ true → may_ask reach b ≡ true
asked_before reach last [] le all b asks = grind (arith, nat_tests)
asked_before reach last (n ∷ ns) le all b asks =
    let first = all.0 in
    grind (arith, nat_tests, asked_before reach last ns le all.1 b)

module _ (f : Facts) (history : List Record) (s : StandsFor f history) where
  abbrev kept : List KeptRecord
  kept = kept_above f.oldest history

  rise : IsRising kept
  rise = rising_map history (filter (λ p. nat_lt f.oldest p.commit) history) (history_rises f.oldest 0 history s.numbered)

  module _ (t : View) (reach : IsInReach f t) (r : Record) (own : IsRecordOf t (f.last + 1) r) where
    abbrev records : List KeptRecord
    records = kept_above t.begin history

    late_is : records ≡ filter (λ k. nat_lt t.begin k.commit) kept
    late_is = sym (kept_later f.oldest t.begin history reach.active)

    written : (k : Bytes) → is_key_written records k ≡ is_written_since f.postings t.begin k
    written k = ap (λ ks. is_key_written ks k) late_is ∙ written_by f.reach f.oldest t.begin f.postings kept k s.writers reach.active reach.asks rise

    target_is : first_number (λ k. follows k t) records ≡ target f t
    target_is = ap (first_number (λ k. follows k t)) late_is ∙ target_by f.reach f.oldest t.begin f.postings kept t s.writers reach.active reach.asks rise

    pivot_is : first_number (becomes_pivot t) records ≡ other_pivot f t
    pivot_is = ap (first_number (becomes_pivot t)) late_is ∙ pivot_by f.reach f.oldest t.begin f.postings kept t s.writers reach.active reach.asks rise

    source_is : last_number (λ k. leads_to k t) records ≡ source f t
    source_is = source_found f.oldest (last_reader f.readers) history t reach.active s.readers (rising_from_numbered 0 history s.numbered)

    abbrev overwrites : KeyWrite → Bool
    overwrites w = is_written_since f.postings t.begin w.0

    abbrev pivots_say : Option Refusal
    pivots_say = cond (are_in_order (target f t) (source f t)) (Some refusal.PivotSelf) (option_map refusal.Pivot (other_pivot f t))

    pub judged : verdict history r ≡ conflict_of (find overwrites t.writes) pivots_say
    judged =
        verdict_is f history s t reach r own
        ∙ (λ i. conflict_of (find_alike (λ w. is_key_written records w.0) overwrites (λ w. written w.0) t.writes i)
        (cond (are_in_order (target_is i) (source_is i)) (Some refusal.PivotSelf) (option_map refusal.Pivot (pivot_is i))))

    pub says_overwritten : (i : ℕ) → Some i ≡ position overwrites t.writes → Says (Overwritten i) t.writes (verdict history r)
    says_overwritten i e = let at = found_at overwrites ([], None) t.writes i (sym e) in
        (at.0, at.1, judged ∙ ap (λ o. conflict_of o pivots_say) at.2)

    -- what is answered where it overwrites no concurrent commit
    pub says_found : None ≡ position overwrites t.writes → (v : Verdict) → v ≡ answer_found f t → Says v t.writes (verdict history r)
    says_found none v v_is =
        let say = judged ∙ ap (λ o. conflict_of o pivots_say) (found_nowhere overwrites t.writes (sym none)) in
        grind arith

    -- whether it has read what a concurrent one wrote
    pub target_found : is_some (target f t) ≡ list_any (concurrent_read_write r) history
    target_found = ap is_some (sym target_is) ∙ sym (any_is_found (λ k. follows k t) records) ∙ sym (flag_is f history s t reach r own)

    module _ (clear : verdict history r ≡ None) (readers : Readers) (read : IsNoted t.marks (f.last + 1) f.readers readers)
        (postings : List Posting)
        (has : (c : Posting → Bool) → least c postings
        ≡ lesser (least c f.postings) (least c (postings_by (f.last + 1) (list_any (concurrent_read_write r) history) (keys_of t.writes)))) where
      pub noted : StandsFor (record { readers = readers; postings = postings; oldest = f.oldest; last = f.last + 1; reach = f.reach }) (history ++ r ∷ [])
      noted =
          let n = f.last + 1 in
          let above : f.oldest < f.last + 1 = omega arith in
          let len : f.last + 1 ≡ length history + 1 = omega arith in
          record {
            numbered = numbered f history s t reach r own;
            begun = begun f history s t reach r own;
            no_pivot = no_pivot f history s t reach r own clear;
            last = len ∙ sym (length_push history r);
            readers = noted_readers f.oldest (last_reader f.readers) (last_reader readers) history r t.marks n s.readers s.numbered above len own.commit
                own.reads read;
            writers = subst (λ ks. AreWriters f.reach f.oldest postings ks) (all_kept f history s t reach r own)
                (writers_noted f.reach f.oldest f.postings postings kept (own_record records t n) s.writers
                (λ c. has c ∙ ap (λ x. lesser (least c f.postings) (least c (postings_by n x (keys_of t.writes)))) (flag_is f history s t reach r own)));
            now = let low = s.now in omega (arith, low);
          }

  -- older ones are forgotten
  pub forgotten : (newer : ℕ) → f.oldest ≤ newer → (readers : Readers) → IsForgotten newer f.readers readers → (postings : List Posting)
      → AnswerAs (nat_le newer) postings f.postings
      → StandsFor (record { readers = readers; postings = postings; oldest = newer; last = f.last; reach = f.reach }) history
  forgotten newer above readers cut_to postings same =
      let read = forgotten_readers f.oldest newer (last_reader f.readers) (last_reader readers) history s.readers above cut_to in
      let wrote = subst (λ ks. AreWriters f.reach newer postings ks) (kept_later f.oldest newer history above)
      (writers_forgotten f.reach f.oldest newer f.postings postings kept s.writers above same) in
      record { numbered = s.numbered; begun = s.begun; no_pivot = s.no_pivot; last = s.last; readers = read; writers = wrote; now = s.now }

  -- some that none who may ask is answered by are left out
  pub shortened : (postings : List Posting) → AnswerAs (λ b. nat_le f.oldest b && may_ask f.reach b) postings f.postings
      → StandsFor (record { readers = f.readers; postings = postings; oldest = f.oldest; last = f.last; reach = f.reach }) history
  shortened postings same = record {
    numbered = s.numbered;
    begun = s.begun;
    no_pivot = s.no_pivot;
    last = s.last;
    readers = s.readers;
    writers = λ b asks keys flagged. same b asks keys flagged ∙ s.writers b asks keys flagged;
    now = s.now;
  }

  -- fewer may ask
  pub narrowed : (begins : List ℕ) → AllByRecursion (λ b. may_ask f.reach b ≡ true) begins → StandsFor (asked_from begins f) history
  narrowed begins all = record {
    numbered = s.numbered;
    begun = s.begun;
    no_pivot = s.no_pivot;
    last = s.last;
    readers = s.readers;
    writers = λ b asks.
        let parts = and_parts _ _ asks in
        s.writers b (and_from _ _ parts.0 (asked_before f.reach f.last begins s.now all b parts.1));
    now = omega arith;
  }

-- ---- what the calls of `Committed` ask

none_flagged : (ms : List Mark) (b : ℕ) (ps : List Posting) → least (covered_of ms b false) ps ≡ None → least (covered_of ms b true) ps ≡ None
none_flagged ms b [] e = refl
none_flagged ms b (p ∷ ps) e = grind (arith, none_flagged ms b ps)

pub clear_is : (f : Facts) (t : View) → None ≡ target f t → Clear (record { has_earlier_target = false }) ≡ answer_found f t
clear_is f t e = sym (λ i. verdict_found (are_in_order (sym e i) (source f t)) (none_flagged t.marks t.begin f.postings (sym e) i) (is_some (sym e i)))

-- the transaction commits as number n
pub notes : (f : Facts) (history : List Record) → StandsFor f history → (t : View) → IsInReach f t → (n : ℕ) → n ≡ f.last + 1 → (r : Record) → IsRecordOf t n r
    → (cleared : Cleared) → IsCleared f t cleared → (keys : List Bytes) → keys ≡ keys_of t.writes
    → (readers : Readers) → IsNoted t.marks n f.readers readers
    → (postings : List Posting)
    → ((c : Posting → Bool) → least c postings ≡ lesser (least c f.postings) (least c (postings_by n cleared.has_earlier_target keys)))
    → (oldest : ℕ) → oldest ≡ f.oldest → (asking : Reach) → asking ≡ f.reach
    → StandsFor (record { readers = readers; postings = postings; oldest = oldest; last = n; reach = asking }) (history ++ r ∷ [])
notes f history s t reach n next r own cleared is keys keys_is readers read postings has oldest oldest_is asking asking_is =
    let own' : IsRecordOf t (f.last + 1) r = subst (λ m. IsRecordOf t m r) next own in
    let clear = is reach history s r own' in
    subst (λ (g : Facts). StandsFor g (history ++ r ∷ [])) (λ i. record {
      readers = readers;
      postings = postings;
      oldest = sym oldest_is i;
      last = sym next i;
      reach = sym asking_is i;
    })
    (noted f history s t reach r own' clear.0 readers (subst (λ m. IsNoted t.marks m f.readers readers) next read)
    postings (λ c. has c ∙ (λ i. lesser (least c f.postings) (least c (postings_by (next i) (clear.1 i) (keys_is i))))))

found_follows : (own : Bool) (other : Option ℕ) (follows : Bool) (cleared : Cleared) → Clear cleared ≡ verdict_found own other follows
    → cleared.has_earlier_target ≡ follows
found_follows true other follows cleared e = cc
found_follows false None follows cleared e = grind arith
found_follows false (Some n) follows cleared e = cc

-- the answer clears the transaction
pub clears : (f : Facts) (t : View) (v : Verdict) → (IsInReach f t → IsVerdict f t v) → v ≡ answer_found f t → IsClearedBy f t v
clears f t (Clear cleared) says v_is = λ reach history s r own. (
  says reach history s r own,
  found_follows (are_in_order (target f t) (source f t)) (other_pivot f t) (is_some (target f t)) cleared v_is ∙ target_found f history s t reach r own,
)
clears f t (Overwritten i) says v_is = tt
clears f t PivotSelf says v_is = tt
clears f t (Pivot n) says v_is = tt
