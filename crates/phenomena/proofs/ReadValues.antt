-- What a transaction that runs on a private copy is answered of a key, until it writes the key; and that its marks cover it.
use Rattle.std.proofs.Common.{ℕ, ◌≡◌, true, false, not, cond, ◌&&◌, List, [], ◌∷◌, ◌++◌, Option, Some, None, refl}
use Rattle.std.proofs.Common.{sym, ap, ◌∙◌, length, take, arith, inl, inr, nat_lt, nat_cmp}
use Rattle.std.proofs.lemmas.Bool.{or_from, not-true, false_from_ne_true, both_ways, cond_both, or_cases, or_left}
use Rattle.std.proofs.lemmas.Bool.{or_right, and_parts}
use Rattle.std.proofs.lemmas.Grind.{common_steps}
use Rattle.std.specs.BTreeSet.{insert_key}
use Rattle.std.specs.Cmp.Lexicographic.{slice_cmp}
use Rattle.std.specs.FinMap.Entries.{is_sorted-where_key}
use Rattle.std.specs.List.{list_any}
use Rattle.model.proofs.Lookups.{same_key, same_key_comm, any-insert_key, value_after_write, IsMap-after_write}
use Rattle.model.specs.Map.{Bytes, KeyMap, IsMap, value_at, is_same_key, after_write, is_empty_range, is_in_range}
use Rattle.model.specs.Map.{pairs_in_range}
use Rattle.model.specs.Operations.{Operation, Response}
use Rattle.model.specs.Operations.Operation.{Get, Set, Del, Range}
use Rattle.model.specs.Operations.Response.{Value, Pairs, Refused, Done}
use Rattle.model.specs.PrivateCopy.{Mark, mark_of_reply, covers, is_covered, is_same_end, is_same_mark, PrivateCopy}
use Rattle.model.specs.PrivateCopy.{copy_of, is_written, after_read, after_put, respond, copy_after, responses}
use Rattle.model.specs.PrivateCopy.Mark.{OfKey, OfRange, OfClosedRange}
use Rattle.model.specs.declared.refusals.Refusal.TheVariants.{FullMarks, FullWrites}
use Rattle.phenomena.proofs.Pages.{shows, range_value, page_covers, not_empty, take_is}
use Rattle.phenomena.specs.Adya.{puts_key, looks_at, value_given, reads_version, ReadsValue}

-- ---- marks

same_end : (j k : Option Bytes) → is_same_end j k ≡ true → j ≡ k
same_end None None e = refl
same_end (Some j) (Some k) e = ap (λ x. Some x) (same_key j k e)
same_end j k e = cc

same_mark : (a b : Mark) → is_same_mark a b ≡ true → a ≡ b
same_mark (OfKey j) (OfKey k) e = ap (λ x. OfKey x) (same_key j k e)
same_mark (OfClosedRange lo last) (OfClosedRange lo' last') e = grind (arith, common_steps, and_parts, same_key lo lo', same_key last last')
same_mark (OfRange lo hi) (OfRange lo' hi') e = grind (arith, common_steps, and_parts, same_key lo lo', same_end hi hi')
same_mark a b e = cc

covered_by_held : (mark : Mark) (marks : List Mark) (k : Bytes) → list_any (is_same_mark mark) marks ≡ true → covers mark k ≡ true → is_covered marks k ≡ true
covered_by_held mark [] k h c = h
covered_by_held mark (m ∷ marks) k h c = grind (arith, common_steps, or_cases, same_mark mark m, covered_by_held mark marks k)

covered_new : (mark : Mark) (marks : List Mark) (k : Bytes) → covers mark k ≡ true → is_covered (marks ++ mark ∷ []) k ≡ true
covered_new mark marks k h = grind (arith, common_steps, or_left, or_right)

-- marks only join
all_grow : (x : PrivateCopy) (qs : List Operation) (k : Bytes) → is_covered x.marks k ≡ true → is_covered (copy_after x qs).marks k ≡ true
all_grow x [] k h = h
all_grow x (q ∷ qs) k h = all_grow (respond x q).1 qs k (grind (arith, common_steps))

-- ---- one request

module _ (k : Bytes) (v : Option Bytes) where
  -- a copy that has not written the key, and has this value of it
  pub record Untouched (x : PrivateCopy) : Type 0 where
    pub is_map : IsMap x.contents
    pub unwritten : is_written x k ≡ false
    pub value : value_at x.contents k ≡ v

  -- where the request looks at the key, it is answered the value, and a mark covers the key; if it doesn't write the key, the copy stays so
  record IsRead (q : Operation) (answer : Response × PrivateCopy) : Type 0 where
    is_read : looks_at k q answer.0 ≡ true → value_given answer.0 k ≡ v
    marked : looks_at k q answer.0 ≡ true → is_covered answer.1.marks k ≡ true
    left : puts_key k q answer.0 ≡ false → Untouched answer.1

  module _ (x : PrivateCopy) (u : Untouched x) where
    looks_elsewhere : (q : Operation) (r : Response) → looks_at k q r ≡ false → IsRead q (r, x)
    looks_elsewhere q r none = record { is_read = λ l. absurd (both_ways _ none l); marked = λ l. absurd (both_ways _ none l); left = λ _. u }

    read_is_read : (q : Operation) (mark : Mark) (r : Response) → looks_at k q (Refused FullMarks) ≡ false →
        (looks_at k q r ≡ true → (value_given r k ≡ v) × (covers mark k ≡ true)) → IsRead q (after_read x mark r)
    read_is_read q mark r none h =
        cond_both (list_any (is_same_mark mark) x.marks) _ _ (λ (a : Response × PrivateCopy). IsRead q a)
        (λ held. record { is_read = λ l. (h l).0; marked = λ l. covered_by_held mark x.marks k held (h l).1; left = λ _. u })
        (λ _. cond_both (nat_lt (length x.marks) 256) _ _ (λ (a : Response × PrivateCopy). IsRead q a)
        (λ _. record {
          is_read = λ l. (h l).0;
          marked = λ l. covered_new mark x.marks k (h l).1;
          left = λ _. record { is_map = u.is_map; unwritten = u.unwritten; value = u.value };
        })
        (λ _. looks_elsewhere q (Refused FullMarks) none))

    get_is_read : (j : Bytes) → IsRead (Get j) (respond x (Get j))
    get_is_read j =
        cond_both (is_written x j) _ _ (λ (a : Response × PrivateCopy). IsRead (Get j) a)
        (λ w. looks_elsewhere (Get j) (Value (value_at x.contents j)) (other w))
        (λ _. read_is_read (Get j) (OfKey j) (Value (value_at x.contents j)) refl (λ l. (ap (value_at x.contents) (same_key j k l) ∙ u.value, l)))
      where
        other : is_written x j ≡ true → is_same_key j k ≡ false
        other w = false_from_ne_true _ (λ same. both_ways (is_written x k) u.unwritten (ap (is_written x) (sym (same_key j k same)) ∙ w))

    range_is_read : (lo : Bytes) (hi : Option Bytes) (limit : ℕ) → IsRead (Range lo hi limit) (respond x (Range lo hi limit))
    range_is_read lo hi limit =
        cond_both (is_empty_range lo hi) _ _ (λ (a : Response × PrivateCopy). IsRead (Range lo hi limit) a)
        (λ empty. looks_elsewhere (Range lo hi limit) (Pairs [])
        (false_from_ne_true _ (λ l. both_ways _ (not_empty lo hi k (and_parts (is_in_range lo hi k) _ l).0) empty)))
        (λ _. read_is_read (Range lo hi limit) (mark_of_reply lo hi limit page) (Pairs page) refl (λ l.
        let inside = and_parts (is_in_range lo hi k) (shows limit k page) l in
        (range_value x.contents lo hi limit k u.is_map inside.0 inside.1 ∙ u.value, page_covers lo hi limit page k page_is inside.0 inside.1)))
      where
        page : KeyMap
        page = take limit (pairs_in_range x.contents lo hi)

        page_is : IsMap page
        page_is = take_is limit (pairs_in_range x.contents lo hi) (is_sorted-where_key (slice_cmp nat_cmp) (is_in_range lo hi) x.contents u.is_map)

    after_other : (j : Bytes) (w : Option Bytes) (ws : List Bytes) → is_same_key j k ≡ false → list_any (is_same_key k) ws ≡ false
        → Untouched (record x { contents = after_write x.contents j w; written = ws })
    after_other j w ws other none = record {
      is_map = IsMap-after_write x.contents j w u.is_map;
      unwritten = none;
      value = value_after_write x.contents j w k ∙ ap (λ b. cond b w (value_at x.contents k)) (same_key_comm k j ∙ other) ∙ u.value;
    }

    put_is_read : (q : Operation) (j : Bytes) (w : Option Bytes) → ((r : Response) → looks_at k q r ≡ false) → (puts_key k q Done ≡ is_same_key j k)
        → IsRead q (after_put x j w)
    put_is_read q j w none is =
        cond_both (is_written x j) _ _ (λ (a : Response × PrivateCopy). IsRead q a)
        (λ _. record {
          is_read = λ l. absurd (both_ways _ (none _) l);
          marked = λ l. absurd (both_ways _ (none _) l);
          left = λ other. after_other j w x.written (sym is ∙ other) u.unwritten;
        })
        (λ _. cond_both (nat_lt (length x.written) 64) _ _ (λ (a : Response × PrivateCopy). IsRead q a)
        (λ _. record {
          is_read = λ l. absurd (both_ways _ (none _) l);
          marked = λ l. absurd (both_ways _ (none _) l);
          left = λ other. after_other j w (insert_key (slice_cmp nat_cmp) x.written j) (sym is ∙ other)
              (any-insert_key k j x.written ∙ or_from (is_same_key k j) (is_written x k) (same_key_comm k j ∙ (sym is ∙ other)) u.unwritten);
        })
        (λ _. looks_elsewhere q (Refused FullWrites) (none (Refused FullWrites))))

  is_read_by : (x : PrivateCopy) → Untouched x → (q : Operation) → IsRead q (respond x q)
  is_read_by x u (Get j) = get_is_read x u j
  is_read_by x u (Range lo hi limit) = range_is_read x u lo hi limit
  is_read_by x u (Set j w) = put_is_read x u (Set j w) j (Some w) (λ r. refl) refl
  is_read_by x u (Del j) = put_is_read x u (Del j) j None (λ r. refl) refl
  is_read_by x u q = looks_elsewhere x u q _ refl

  -- ---- all requests

  pub values_are_read : (x : PrivateCopy) → Untouched x → (qs : List Operation) → ReadsValue k v qs (responses x qs)
  values_are_read x u [] = tt
  values_are_read x u (q ∷ qs) = let t = is_read_by x u q in (t.is_read, λ other. values_are_read (respond x q).1 (t.left other) qs)

  pub marks_cover : (x : PrivateCopy) → Untouched x → (qs : List Operation) → reads_version k qs (responses x qs) ≡ true
      → is_covered (copy_after x qs).marks k ≡ true
  marks_cover x u [] r = cc
  marks_cover x u (q ∷ qs) r =
      let t = is_read_by x u q in
      elim (or_cases (looks_at k q (respond x q).0) (not (puts_key k q (respond x q).0) && reads_version k qs (responses (respond x q).1 qs)) r) [
        | inl l ↦ all_grow (respond x q).1 qs k (t.marked l)
        | inr later ↦ let p = and_parts (not (puts_key k q (respond x q).0)) (reads_version k qs (responses (respond x q).1 qs)) later in marks_cover
            (respond x q).1 (t.left (not-true _ p.0)) qs p.1
      ]

pub at_begin : (k : Bytes) (m : KeyMap) → IsMap m → Untouched k (value_at m k) (copy_of m)
at_begin k m h = record { is_map = h; unwritten = refl; value = refl }
