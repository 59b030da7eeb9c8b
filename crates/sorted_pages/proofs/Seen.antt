-- What numbers see of entries: those that aren't hidden.
use Rattle.std.proofs.Common.{◌≡◌, Bool, true, false, cond, List, [], ◌∷◌, ◌++◌}
use Rattle.std.proofs.Common.{refl, arith}
use Rattle.std.proofs.lemmas.Grind.{common_steps}
use Rattle.std.specs.List.{AllByRecursion}
use Rattle.model.proofs.Entries.{IsSorted, IsBelowAll}
use Rattle.model.proofs.InOrder.{both, parts}
use Rattle.model.specs.Map.{Bytes}
use Rattle.sorted_pages.specs.Ranges.{shown}
use Rattle.sorted_pages.specs.Summaries.{are_hidden}

-- ---- the entries that aren't hidden

module _ {X : Type 0} (hides : X → Bool) where
  pub shown-append : (xs ys : List (Bytes × X)) → shown hides (xs ++ ys) ≡ shown hides xs ++ shown hides ys
  shown-append [] ys = refl
  shown-append (x ∷ xs) ys = grind (arith, shown-append xs ys)

  -- nothing is left of what is hidden
  pub shown-hidden : (es : List (Bytes × X)) → are_hidden hides es ≡ true → shown hides es ≡ []
  shown-hidden [] h = refl
  shown-hidden (e ∷ es) h = grind (arith, common_steps, shown-hidden es)

  pub all-shown : (P : Bytes × X → Type 0) (es : List (Bytes × X)) → AllByRecursion P es → AllByRecursion P (shown hides es)
  all-shown P [] h = tt
  all-shown P (e ∷ es) h =
      elim (hides e.1) as (λ b. AllByRecursion P (cond b (shown hides es) (e ∷ shown hides es)))
      [ true ↦ all-shown P es h.1 | false ↦ (h.0, all-shown P es h.1) ]

  pub below-shown : (k : Bytes) (es : List (Bytes × X)) → IsBelowAll k es → IsBelowAll k (shown hides es)
  below-shown k [] h = tt
  below-shown k (e ∷ es) h =
      let p = parts _ _ h in
      elim (hides e.1) as (λ b. IsBelowAll k (cond b (shown hides es) (e ∷ shown hides es)))
      [ true ↦ below-shown k es p.1 | false ↦ both _ _ p.0 (below-shown k es p.1) ]

  pub sorted-shown : (es : List (Bytes × X)) → IsSorted es → IsSorted (shown hides es)
  sorted-shown [] h = tt
  sorted-shown (e ∷ es) h =
      let p = parts _ _ h in
      elim (hides e.1) as (λ b. IsSorted (cond b (shown hides es) (e ∷ shown hides es)))
      [ true ↦ sorted-shown es p.1 | false ↦ both _ _ (below-shown e.0 es p.0) (sorted-shown es p.1) ]
