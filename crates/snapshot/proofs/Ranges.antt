-- A read of a range against the private copy.
use Rattle.model.specs.declared.refusals.Refusal.TheVariants as refusal
use Rattle.std.proofs.Common.{arith, ◌≡◌, ◌≢◌, ℕ, zero, suc, true, false, ◌&&◌, List, [], ◌∷◌, ◌++◌, take, Option}
use Rattle.std.proofs.Common.{Some, None, refl, sym, ap, subst, ◌∙◌}
use Rattle.std.proofs.lemmas.Bool.{not-true, both_ways}
use Rattle.std.proofs.lemmas.Grind.{common_steps}
use Rattle.std.proofs.lemmas.Map.Lookups.{exact_bytes}
use Rattle.std.specs.Cmp.Lexicographic.{slice_cmp, nat_list_cmp_total}
use Rattle.std.specs.FinMap.Entries.{where_key}
use Rattle.std.specs.Ordering.{is_lt, is_le, nat_cmp}
use Rattle.std.specs.Prelude.{◌↔◌, if◌then◌else◌, IsTrue}
use Rattle.model.proofs.Steps.{copy_after-push}
use Rattle.model.specs.KeyBytes.{key_bytes, end_bytes}
use Rattle.model.specs.Map.{Bytes, KeyMap, KeyWrite, IsMap, key_cmp, after_writes, is_in_range, is_empty_range}
use Rattle.model.specs.Map.{pairs_in_range}
use Rattle.model.specs.Operations.{Operation, Response}
use Rattle.model.specs.Operations.Response.{Pairs, Refused}
use Rattle.model.specs.PrivateCopy.{Mark, PrivateCopy, page_end, copy_of, copy_after, respond, answer}
use Rattle.model.specs.declared.ranges.RangeRef.{RangeRef}
use Rattle.versions.specs.Chains.{ChainsValue}
use Rattle.versions.specs.Lent.{range_pairs}
use Rattle.versions.specs.Meaning.{map_seen}
use Rattle.marks.specs.Marked.{with_mark}
use Rattle.write_buffer.specs.Buffered.{AreEntries}
use Rattle.snapshot.proofs.Copies.{marked_as, refused_as, read_fault, answer_held}
use Rattle.snapshot.proofs.Pages.{end_above}
use Rattle.snapshot.proofs.Pieces.{merged-range}
use Rattle.snapshot.specs.Ahead.{merged_pairs, with_ahead}
use Rattle.snapshot.specs.Made.{HasMade, MakesOneMoreOver, IsFault, IsKnownRange, range_read, is_refused}
use Rattle.snapshot.specs.Merged.{merged, page_mark, with_page_marks, has_page, all_rows, rows_of, after_range}
use Rattle.snapshot.specs.Merged.{is_full_range}
use Rattle.snapshot.specs.View.{View, copy_held, marked}
use Rattle.snapshot.specs.declared.faults.SnapshotFault.{SnapshotFault}
use Rattle.snapshot.specs.declared.faults.SnapshotFault.TheVariants.{FullWrites, FullMarks}
use Rattle.snapshot.specs.declared.merge.MergedPairs.{MergedPairs}

-- no key lies in an empty range
nothing_between : (lo h q : Bytes) → is_lt (key_cmp lo h) ≡ false → (is_le (key_cmp lo q) && is_lt (key_cmp q h)) ≡ false
nothing_between lo h q e = grind (arith, common_steps, nat_list_cmp_total.trans lo q h, exact_bytes lo q)

none_in : (lo : Bytes) (hi : Option Bytes) (q : Bytes) → is_empty_range lo hi ≡ true → is_in_range lo hi q ≡ false
none_in lo None q e = absurd (both_ways false refl e)
none_in lo (Some h) q e = nothing_between lo h q (not-true (is_lt (key_cmp lo h)) e)

no_pairs : (lo : Bytes) (hi : Option Bytes) (m : KeyMap) → is_empty_range lo hi ≡ true → pairs_in_range m lo hi ≡ []
no_pairs lo hi [] e = refl
no_pairs lo hi (p ∷ ps) e = grind (arith, common_steps, none_in lo hi p.0 e, no_pairs lo hi ps e)

take_none : (n : ℕ) → ◌≡◌ {A = KeyMap} (take n []) []
take_none zero = refl
take_none (suc n) = refl

module _ (t : View) (m : KeyMap) (r : RangeRef) (limit : ℕ) (h : AreEntries t.writes) (is_map : IsMap m) where
  pub rows_are : rows_of t m r limit ≡ take limit (pairs_in_range (after_writes m t.writes) (key_bytes r.lo) (end_bytes r.hi))
  rows_are = ap (take limit) (merged-range m t.writes (key_bytes r.lo) (end_bytes r.hi) is_map h.sorted)

  pub respond-range : is_full_range t m r limit ≡ false
      → respond (copy_held t m) (range_read r limit) ≡ (Pairs (rows_of t m r limit), copy_held (after_range t m r limit) m)
  respond-range e = grind (arith, common_steps, rows_are, no_pairs, take_none, marked_as)

  pub respond-range_full : is_full_range t m r limit ≡ true → (respond (copy_held t m) (range_read r limit)).0 ≡ Refused refusal.FullMarks
  respond-range_full e = grind (arith, common_steps, rows_are, both_ways, refused_as)

module _ (t : View) (m : KeyMap) (r : RangeRef) (limit : ℕ) where
  range-made : (qs : List Operation) → is_full_range t m r limit ≡ false → HasMade t m qs → HasMade (after_range t m r limit) m (qs ++ range_read r limit ∷ [])
  range-made qs e h = record {
    is_map = h.is_map;
    entries = elim (is_empty_range (key_bytes r.lo) (end_bytes r.hi)) as
        (λ b. AreEntries (if b then t else marked t (page_mark r limit (rows_of t m r limit))).writes) [ true ↦ h.entries | false ↦ h.entries ];
    copy = sym (ap (λ (x : Response × PrivateCopy). x.1) (respond-range t m r limit h.entries h.is_map e)) ∙ ap (λ c. (respond c (range_read r limit)).1) h.copy
        ∙ sym (copy_after-push (copy_of m) qs (range_read r limit));
  }

  range-pairs : (qs : List Operation) → is_full_range t m r limit ≡ false → HasMade t m qs → answer m qs (range_read r limit) ≡ Pairs (rows_of t m r limit)
  range-pairs qs e h = answer_held t m qs (range_read r limit) h ∙ ap (λ (x : Response × PrivateCopy). x.0) (respond-range t m r limit h.entries h.is_map e)

  pub range-leaves : (u : View) → is_full_range t m r limit ≡ false → u ≡ after_range t m r limit → MakesOneMoreOver m t u (range_read r limit)
  range-leaves u room after = λ qs h. subst (λ (w : View). HasMade w m (qs ++ range_read r limit ∷ [])) (sym after) (range-made qs room h)

-- of the map that the begin number sees, and one that is equal to it
module _ (t : View) (v : ChainsValue) (m : KeyMap) (qs : List Operation) (r : RangeRef) (limit : ℕ) (seen : map_seen v t.begin ≡ m) (h : HasMade t m qs) where
  pub range-reply : (ps : KeyMap) → is_full_range t (map_seen v t.begin) r limit ≡ false → ps ≡ rows_of t (map_seen v t.begin) r limit
      → answer m qs (range_read r limit) ≡ Pairs ps
  range-reply ps room rows = grind (arith, common_steps, range-pairs)

  pub range-fault : (e : SnapshotFault) → e ≢ FullWrites → (◌≡◌ {A = SnapshotFault} e FullMarks ↔ IsTrue (is_full_range t (map_seen v t.begin) r limit))
      → IsFault e (answer m qs (range_read r limit))
  range-fault e never iff = read_fault e (is_full_range t m r limit) (answer m qs (range_read r limit)) never
      (subst (λ (n : KeyMap). ◌≡◌ {A = SnapshotFault} e FullMarks ↔ IsTrue (is_full_range t n r limit)) seen iff)
      (λ f. answer_held t m qs (range_read r limit) h ∙ respond-range_full t m r limit h.entries h.is_map f)
      (λ f. ap is_refused (range-pairs t m r limit qs f h))

  pub range-known : IsKnownRange (copy_after (copy_of m) qs) r limit → IsTrue (has_page t.marks r limit (rows_of t (map_seen v t.begin) r limit))
  range-known known =
      let held = subst (λ (c : PrivateCopy). IsKnownRange c r limit) (sym h.copy) known in
      let rows = subst (λ (ps : KeyMap). IsTrue (has_page t.marks r limit ps)) (sym (rows_are t m r limit h.entries h.is_map)) held in
      subst (λ (n : KeyMap). IsTrue (has_page t.marks r limit (rows_of t n r limit))) (sym seen) rows

-- the pairs of a range over which the writes of the range stand, of which the first was looked at
pub looked-rows : (t : View) (v : ChainsValue) (r : RangeRef) (a b : MergedPairs) (ws : List KeyWrite) (ps : KeyMap) → b.writes ≡ a.writes
    → with_ahead b.ahead (range_pairs b.pairs) ≡ with_ahead a.ahead (range_pairs a.pairs) → merged_pairs a ≡ merged ws ps
    → ws ≡ where_key (slice_cmp nat_cmp) (is_in_range (key_bytes r.lo) (end_bytes r.hi)) t.writes
    → ps ≡ pairs_in_range (map_seen v t.begin) (key_bytes r.lo) (end_bytes r.hi)
    → merged_pairs b ≡ all_rows t (map_seen v t.begin) r
looked-rows t v r a b ws ps writes pairs is own seen = (λ i. merged (writes i).now (pairs i)) ∙ is ∙ λ i. merged (own i) (seen i)

-- what a read of these pairs answers and marks, of a view and one that is equal to it
module _ (t now : View) (v : ChainsValue) (r : RangeRef) (limit : ℕ) (all : KeyMap) (is : t ≡ now) (same : all ≡ all_rows t (map_seen v t.begin) r) where
  pub rows_now : take limit all ≡ rows_of now (map_seen v now.begin) r limit
  rows_now = ap (take limit) same ∙ ap (λ (u : View). rows_of u (map_seen v u.begin) r limit) is

  pub page_above : (last : Bytes) → page_end limit (take limit all) ≡ Some last → is_le (key_cmp (key_bytes r.lo) last) ≡ true
  page_above last e = end_above t (map_seen v t.begin) r limit last (sym (ap (λ (ps : KeyMap). page_end limit (take limit ps)) same) ∙ e)

  -- what is true of the page is so of the rows
  pub page_now : {X : Type 0} (f : List Mark → RangeRef → ℕ → KeyMap → X)
      → f t.marks r limit (take limit all) ≡ f now.marks r limit (rows_of now (map_seen v now.begin) r limit)
  page_now f = λ i. f (is i).marks r limit (rows_now i)

  pub after_now : (ms : List Mark) → ms ≡ with_page_marks t.marks r limit (take limit all)
      → record t { marks = ms } ≡ after_range now (map_seen v now.begin) r limit
  after_now ms e =
      ap (λ (ns : List Mark). record t { marks = ns }) (e ∙ ap (λ (ps : KeyMap). with_page_marks t.marks r limit (take limit ps)) same)
      ∙ elim (is_empty_range (key_bytes r.lo) (end_bytes r.hi)) as
      (λ b. record t { marks = if b then t.marks else with_mark t.marks (page_mark r limit (rows_of t (map_seen v t.begin) r limit)) }
      ≡ (if b then t else marked t (page_mark r limit (rows_of t (map_seen v t.begin) r limit)))) [ true ↦ refl | false ↦ refl ]
      ∙ ap (λ (u : View). after_range u (map_seen v u.begin) r limit) is

  pub unmarked : (ms : List Mark) → ms ≡ t.marks → record t { marks = ms } ≡ now
  unmarked ms e = ap (λ (ns : List Mark). record t { marks = ns }) e ∙ is
