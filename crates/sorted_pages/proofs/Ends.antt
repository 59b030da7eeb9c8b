-- The end of a range: what stands in the pages behind that of the end, or below the least key from the end on.
use Rattle.std.proofs.Common.{◌≡◌, ℕ, ◌+◌, Bool, List, [], ◌∷◌, ◌++◌, length, zero, suc, take, drop, get_or, Option}
use Rattle.std.proofs.Common.{Some, refl, sym, ap, subst, ◌∙◌, arith}
use Rattle.std.proofs.lemmas.Bool.{not-true}
use Rattle.std.proofs.lemmas.Grind.{common_steps}
use Rattle.std.proofs.lemmas.List.{append_assoc, take-append-drop}
use Rattle.std.proofs.lemmas.List.Elements.{filter-append}
use Rattle.std.specs.List.{AllByRecursion}
use Rattle.std.specs.Ordering.{is_lt, is_le}
use Rattle.std.specs.declared.cmp.Ordering.TheVariants.{Less}
use Rattle.model.proofs.Elements.{all-append, all-each, all-take}
use Rattle.model.proofs.Entries.{IsBelowAll, IsSorted}
use Rattle.model.proofs.InOrder.{parts, sorted_left, sorted_right}
use Rattle.model.proofs.KeyOrder.{from_lo, itself}
use Rattle.model.specs.Map.{Bytes, key_cmp, is_below}
use Rattle.sorted_pages.proofs.Keys.{below_trans}
use Rattle.sorted_pages.proofs.Placings.{entries-append, entries_at, page_is}
use Rattle.sorted_pages.proofs.Seen.{all-shown, below-shown, shown-append}
use Rattle.sorted_pages.proofs.Tails.{In, from_above, none_above}
use Rattle.sorted_pages.specs.Ranges.{shown}
use Rattle.sorted_pages.specs.Pages.{AreBelow, HasEntry, IsInOrder, IsPlace, Page, RestHaveEntries, entries}
use Rattle.sorted_pages.specs.Ranges.{AreFrom, IsCutAlike, IsLeastFrom, first_key}

take_whole : {Y : Type 0} (xs : List Y) (y : Y) (ys : List Y) → take (length xs + 1) (xs ++ y ∷ ys) ≡ xs ++ y ∷ []
take_whole [] y ys = refl
take_whole (x ∷ xs) y ys = grind (arith, common_steps, take_whole xs y ys)

module _ {X : Type 0} where
  -- ---- a bound

  -- each key is below the one bound where it is below the other
  abbrev AreAlike : Option Bytes → Option Bytes → List (Bytes × X) → Type 0
  AreAlike a b es = AllByRecursion (λ e. is_below e.0 a ≡ is_below e.0 b) es

  same_bound : (lo : Bytes) (a b : Option Bytes) (es : List (Bytes × X)) → AreAlike a b es → In lo a es ≡ In lo b es
  same_bound lo a b [] h = refl
  same_bound lo a b (e ∷ es) h = grind (arith, h.0, same_bound lo a b es h.1)

  -- the least key from hi on bounds what stands below hi as hi does
  below_least : (hi q : Bytes) (tail : List (Bytes × X)) → AreFrom hi tail → key_cmp q hi ≡ Less
      → is_below q (first_key tail) ≡ is_below q (Some hi)
  below_least hi q [] f lt = sym (ap is_lt lt)
  below_least hi q (e ∷ es) f lt = ap is_lt (below_trans q hi e.0 lt f.0 ∙ sym lt)

  -- and what stands from it on
  from_both : (j k : Bytes) (es : List (Bytes × X)) → AreFrom j es → AreFrom k es → AreAlike (Some j) (Some k) es
  from_both j k [] f g = tt
  from_both j k (e ∷ es) f g =
      (not-true _ (sym (from_lo j e.0) ∙ f.0) ∙ sym (not-true _ (sym (from_lo k e.0) ∙ g.0)), from_both j k es f.1 g.1)

  from_least : (hi : Bytes) (tail : List (Bytes × X)) → IsSorted tail → AreFrom hi tail → AreAlike (first_key tail) (Some hi) tail
  from_least hi [] h f = tt
  from_least hi (e ∷ es) h f = from_both e.0 hi (e ∷ es) (ap is_le (itself e.0), from_above e.0 es (parts _ _ h).0) f

  alike : (hi : Bytes) (before tail : List (Bytes × X)) → IsSorted (before ++ tail) → AreBelow hi before → AreFrom hi tail
      → AreAlike (first_key tail) (Some hi) (before ++ tail)
  alike hi before tail h below from =
      all-append _ before tail (all-each _ _ before (λ e lt. below_least hi e.0 tail from lt) below)
      (from_least hi tail (sorted_right key_cmp before tail h) from)

  -- ---- the pages up to the one of the end

  front_is : (ps : List (Page X)) (k : Bytes) (i : ℕ) (w : IsPlace ps k i) → take (i + 1) ps ≡ w.before ++ w.page ∷ []
  front_is ps k i w = grind (arith, common_steps, take_whole w.before w.page w.after, w.is, w.index)

  front_entries : (ps : List (Page X)) (k : Bytes) (i : ℕ) (w : IsPlace ps k i) → entries (take (i + 1) ps) ≡ entries w.before ++ w.page.0
  front_entries ps k i w = grind (arith, common_steps, front_is ps k i w, entries-append)

  behind : (ps : List (Page X)) (k : Bytes) (i : ℕ) (w : IsPlace ps k i) → entries ps ≡ entries (take (i + 1) ps) ++ entries w.after
  behind ps k i w =
      entries_at ps k i w ∙ sym (append_assoc (entries w.before) w.page.0 (entries w.after))
      ∙ ap (λ l. l ++ entries w.after) (sym (front_entries ps k i w))

  -- nothing behind them is in range
  none_behind : (hides : X → Bool) (lo hi : Bytes) (xs ys : List (Bytes × X)) → IsBelowAll hi ys
      → In lo (Some hi) (shown hides (xs ++ ys)) ≡ In lo (Some hi) (shown hides xs)
  none_behind hides lo hi xs ys h =
      let none = none_above lo hi (Some hi) (shown hides ys) (below-shown hides hi ys h) (ap is_lt (itself hi)) in
      grind (arith, common_steps, shown-append, filter-append, none)

  rest_to : (ps : List (Page X)) (n : ℕ) → RestHaveEntries ps → RestHaveEntries (take n ps)
  rest_to ps zero h = tt
  rest_to [] (suc n) h = tt
  rest_to (p ∷ ps) (suc n) h = all-take HasEntry ps n h

  pub order_to : (ps : List (Page X)) (n : ℕ) → IsInOrder ps → IsInOrder (take n ps)
  order_to ps n h =
      let all : entries ps ≡ entries (take n ps) ++ entries (drop n ps) =
      ap entries (sym (take-append-drop n ps)) ∙ entries-append (take n ps) (drop n ps) in
      record {
        sorted = sorted_left key_cmp (entries (take n ps)) (entries (drop n ps)) (subst (λ (l : List (Bytes × X)). IsSorted l) all h.sorted);
        filled = rest_to ps n h.filled;
      }

  pub ends_as : (ps : List (Page X)) (hi : Bytes) (i : ℕ) (p : Page X) (least : Option Bytes) → IsPlace ps hi i → p ≡ get_or ps i p → IsInOrder ps
      → IsLeastFrom p.0 hi least → IsCutAlike ps hi (take (i + 1) ps) least
  ends_as ps hi i p least w is h t = λ hides lo.
      let qs = take (i + 1) ps in
      let before : List (Bytes × X) = entries w.before ++ t.from.before in
      let all : entries qs ≡ before ++ t.tail =
      front_entries ps hi i w
      ∙ ap (λ l. entries w.before ++ l) (ap (λ (q : Page X). q.0) (sym (page_is ps hi i p w is)) ∙ t.from.is)
      ∙ sym (append_assoc (entries w.before) t.from.before t.tail) in
      let sorted = (order_to ps (i + 1) h).sorted in
      let same = alike hi before t.tail (subst (λ (l : List (Bytes × X)). IsSorted l) all sorted)
      (all-append _ (entries w.before) t.from.before w.below t.from.below) t.from.from in
      let bound = all-shown hides _ (entries qs) (subst (AreAlike (first_key t.tail) (Some hi)) (sym all) same) in
      ap (λ b. In lo b (shown hides (entries qs))) t.is
      ∙ same_bound lo (first_key t.tail) (Some hi) (shown hides (entries qs)) bound
      ∙ sym (none_behind hides lo hi (entries qs) (entries w.after) w.above)
      ∙ ap (λ l. In lo (Some hi) (shown hides l)) (sym (behind ps hi i w))
