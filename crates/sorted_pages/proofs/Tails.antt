-- The entries of a range: the tail of all entries from its lower bound on, up to its upper bound.
use Rattle.std.proofs.Common.{◌≡◌, ℕ, Bool, true, false, T, not, cond, List, [], ◌∷◌, ◌++◌, take, drop, get_or, ◌+◌}
use Rattle.std.proofs.Common.{Option, Some, None, refl, sym, ap, subst, ◌∙◌, arith}
use Rattle.std.proofs.Math.Seq.{drop-append-add}
use Rattle.std.proofs.lemmas.Bool.{and_right}
use Rattle.std.proofs.lemmas.Grind.{common_steps}
use Rattle.std.proofs.lemmas.List.{take-append-drop, append_assoc, drop-drop}
use Rattle.std.specs.Cmp.Lexicographic.{nat_list_cmp_total}
use Rattle.std.specs.FinMap.Entries.{where_key}
use Rattle.std.specs.List.{AllByRecursion}
use Rattle.std.specs.Ordering.{is_lt, is_le}
use Rattle.std.specs.declared.cmp.Ordering.TheVariants.{Less}
use Rattle.model.proofs.Elements.{all-append, all-each}
use Rattle.model.proofs.Entries.{IsSorted, IsBelowAll}
use Rattle.model.proofs.InOrder.{less, sorted_right, parts}
use Rattle.model.proofs.KeyOrder.{from_lo, turned_less}
use Rattle.model.specs.Entries.{IsSplit}
use Rattle.model.specs.Map.{Bytes, key_cmp, is_below, is_in_range}
use Rattle.sorted_pages.proofs.Placings.{entries_at, page_is}
use Rattle.sorted_pages.proofs.Seen.{all-shown, shown-append, sorted-shown}
use Rattle.sorted_pages.specs.Ranges.{shown}
use Rattle.sorted_pages.specs.Pages.{Page, entries, IsPlace, IsInOrder, AreBelow}
use Rattle.sorted_pages.specs.Ranges.{up_to, AreFrom, IsTail}

-- what is above a key that isn't below hi isn't
not_below : (q p : Bytes) (hi : Option Bytes) → key_cmp q p ≡ Less → is_below q hi ≡ false → is_below p hi ≡ false
not_below q p None h e = e
not_below q p (Some hi) h e = grind (arith, nat_list_cmp_total.trans q p hi)

module _ {X : Type 0} where
  abbrev pub In : Bytes → Option Bytes → List (Bytes × X) → List (Bytes × X)
  In lo hi es = where_key key_cmp (is_in_range lo hi) es

  passing : (p : Bytes → Bool) (es : List (Bytes × X)) → AllByRecursion (λ (e : Bytes × X). p e.0 ≡ true) (where_key key_cmp p es)
  passing p [] = tt
  passing p (e ∷ es) = elim (p e.0) as (λ b. p e.0 ≡ b
      → AllByRecursion (λ (d : Bytes × X). p d.0 ≡ true) (cond b (e ∷ where_key key_cmp p es) (where_key key_cmp p es)))
      [ true ↦ λ t. (t, passing p es) | false ↦ λ t. passing p es ] refl

  -- a list that is split by k
  pub tail_of : (es : List (Bytes × X)) (k : Bytes) (i : ℕ) → IsSplit es k i → IsTail es k (drop i es)
  tail_of es k i s = record {
    before = take i es;
    is = sym (take-append-drop i es);
    below = subst (AreBelow k) (sym s.before) (all-each _ _ _ (λ e t. less _ (subst T (sym t) tt)) (passing (λ q. is_lt (key_cmp q k)) es));
    from = subst (AreFrom k) (sym s.from) (all-each _ _ _ (λ e t. from_lo k e.0 ∙ t) (passing (λ q. not (is_lt (key_cmp q k))) es));
  }

  -- ---- the range of a tail

  none_below : (lo : Bytes) (hi : Option Bytes) (es rest : List (Bytes × X)) → AreBelow lo es → In lo hi (es ++ rest) ≡ In lo hi rest
  none_below lo hi [] rest h = refl
  none_below lo hi (e ∷ es) rest h = grind (arith, common_steps, turned_less, none_below lo hi es rest h.1)

  pub none_above : (lo q : Bytes) (hi : Option Bytes) (es : List (Bytes × X)) → IsBelowAll q es → is_below q hi ≡ false → In lo hi es ≡ []
  none_above lo q hi [] h e = refl
  none_above lo q hi (d ∷ es) h e =
      let p = parts _ _ h in
      ap (λ b. cond b (d ∷ In lo hi es) (In lo hi es)) (and_right (is_le (key_cmp lo d.0)) (is_below d.0 hi) (not_below q d.0 hi (less _ p.0) e))
      ∙ none_above lo q hi es p.1 e

  -- from lo on, what is in range is what stands below hi
  pub in_tail : (lo : Bytes) (hi : Option Bytes) (es : List (Bytes × X)) → IsSorted es → AreFrom lo es → up_to hi es ≡ In lo hi es
  in_tail lo hi [] h f = refl
  in_tail lo hi (e ∷ es) h f =
      let p = parts _ _ h in
      grind (arith, f.0, in_tail lo hi es p.1 f.1, none_above lo e.0 hi es p.0)

  pub from_above : (k : Bytes) (es : List (Bytes × X)) → IsBelowAll k es → AreFrom k es
  from_above k [] h = tt
  from_above k (e ∷ es) h = let p = parts _ _ h in (ap is_le (less _ p.0), from_above k es p.1)

  -- what isn't hidden of what a page has from lo on, and of the pages after it
  pub range_from : (hides : X
      → Bool) (ps : List (Page X)) (lo : Bytes) (hi : Option Bytes) (i : ℕ) (p : Page X) (front : List (Bytes × X)) (after : List (Page X))
      (w : IsPlace ps lo i) → p ≡ get_or ps i p → IsInOrder ps → IsTail p.0 lo front → after ≡ w.after
      → up_to hi (shown hides (front ++ entries after)) ≡ In lo hi (shown hides (entries ps))
  range_from hides ps lo hi i p front after w is h t same =
      let pre : List (Bytes × X) = entries w.before ++ t.before in
      let rest : List (Bytes × X) = front ++ entries w.after in
      let e : entries ps ≡ pre ++ rest =
      entries_at ps lo i w ∙ ap (λ (l : List (Bytes × X)). entries w.before ++ (l ++ entries w.after)) (ap (λ (q : Page X). q.0) (sym (page_is ps lo i p w is))
      ∙ t.is)
      ∙ ap (λ (l : List (Bytes × X)). entries w.before ++ l) (append_assoc t.before front (entries w.after))
      ∙ sym (append_assoc (entries w.before) t.before rest) in
      let sorted : IsSorted rest = sorted_right key_cmp pre rest (subst (λ (l : List (Bytes × X)). IsSorted l) e h.sorted) in
      grind (arith, common_steps, in_tail, sorted-shown, all-shown, all-append, from_above, shown-append, none_below)

  -- the page at a place, and those after it
  pub from_place : (ps : List (Page X)) (k : Bytes) (i : ℕ) (p : Page X) (w : IsPlace ps k i) → p ≡ get_or ps i p → drop i ps ≡ p ∷ w.after
  from_place ps k i p w is = grind (arith, common_steps, drop-append-add, page_is)

  pub after_place : (ps : List (Page X)) (k : Bytes) (i : ℕ) (p : Page X) (w : IsPlace ps k i) → p ≡ get_or ps i p → drop (i + 1) ps ≡ w.after
  after_place ps k i p w is = sym (drop-drop 1 i ps) ∙ ap (drop 1) (from_place ps k i p w is)
