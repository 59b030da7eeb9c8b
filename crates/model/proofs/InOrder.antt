-- Entries by strictly rising key, whatever the keys and their order: parts of such a list, and what it has at a key.
use Rattle.std.proofs.Common.{◌≡◌, ℕ, suc, ◌<◌, ◌≤◌, Bool, T, cond, ◌&&◌, List, [], ◌∷◌, ◌++◌, length, take, drop}
use Rattle.std.proofs.Common.{get_or, None, Some, refl, sym, ap, subst, ◌∙◌, arith, Ordering, Less, Equal, is_eq}
use Rattle.std.proofs.Common.{is_lt, take-append-drop}
use Rattle.std.proofs.lemmas.Grind.{common_steps}
use Rattle.std.specs.Cmp.{IsTotalOrder}
use Rattle.std.specs.FinMap.Entries.{below_all, is_sorted, find}
use Rattle.std.specs.List.Sorted.{IsNonDecreasingBy}
use Rattle.std.specs.Ordering.{ordering_index}

pub parts : (a b : Bool) → T (a && b) → T a × T b
parts a b h = grind (arith, common_steps)

pub both : (a b : Bool) → T a → T b → T (a && b)
both a b p q = grind (arith, common_steps)

pub less : (o : Ordering) → T (is_lt o) → o ≡ Less
less o h = grind (arith, common_steps)

pub is_less : (o : Ordering) → o ≡ Less → T (is_lt o)
is_less o e = subst (λ r. T (is_lt r)) (sym e) tt

module _ {K X : Type 0} (R : K → K → Ordering) where
  -- the keys from the first on
  pub below_at : (k : K) (es : List (K × X)) (i : ℕ) (d : K × X) → T (below_all R k es) → i < length es → R k (get_or es i d).0 ≡ Less
  below_at k (e ∷ es) (suc i) d h lt = below_at k es i d (parts _ _ h).1 (omega arith)
  below_at k es i d h lt = grind (arith, common_steps, less, parts)

  pub below_left : (k : K) (xs ys : List (K × X)) → T (below_all R k (xs ++ ys)) → T (below_all R k xs)
  below_left k [] ys h = tt
  below_left k (x ∷ xs) ys h = let p = parts _ _ h in both _ _ p.0 (below_left k xs ys p.1)

  pub below_right : (k : K) (xs ys : List (K × X)) → T (below_all R k (xs ++ ys)) → T (below_all R k ys)
  below_right k [] ys h = h
  below_right k (x ∷ xs) ys h = below_right k xs ys (parts _ _ h).1

  pub sorted_left : (xs ys : List (K × X)) → T (is_sorted R (xs ++ ys)) → T (is_sorted R xs)
  sorted_left [] ys h = tt
  sorted_left (x ∷ xs) ys h = let p = parts _ _ h in both _ _ (below_left x.0 xs ys p.0) (sorted_left xs ys p.1)

  pub sorted_right : (xs ys : List (K × X)) → T (is_sorted R (xs ++ ys)) → T (is_sorted R ys)
  sorted_right [] ys h = h
  sorted_right (x ∷ xs) ys h = sorted_right xs ys (parts _ _ h).1

  pub sorted_take : (n : ℕ) (es : List (K × X)) → T (is_sorted R es) → T (is_sorted R (take n es))
  sorted_take n es h = sorted_left (take n es) (drop n es) (subst (λ (l : List (K × X)). T (is_sorted R l)) (sym (take-append-drop n es)) h)

  pub sorted_drop : (n : ℕ) (es : List (K × X)) → T (is_sorted R es) → T (is_sorted R (drop n es))
  sorted_drop n es h = sorted_right (take n es) (drop n es) (subst (λ (l : List (K × X)). T (is_sorted R l)) (sym (take-append-drop n es)) h)

  -- a key below all is not among them
  pub find_none : (k : K) (es : List (K × X)) → T (below_all R k es) → find R k es ≡ None
  find_none k [] h = refl
  find_none k (e ∷ es) h = let p = parts _ _ h in ap (λ o. cond (is_eq o) (Some e.1) (find R k es)) (less _ p.0) ∙ find_none k es p.1

-- from x < y: as x stands to k, or lower, so y
later : {K : Type 0} {R : K → K → Ordering} → IsTotalOrder R → (x y k : K) → R x y ≡ Less → ordering_index (R x k) ≤ ordering_index (R y k)
later o x y k p = grind (arith, common_steps)

module _ {K X : Type 0} {R : K → K → Ordering} (o : IsTotalOrder R) where
  pub below_later : (x y : K) (es : List (K × X)) → R x y ≡ Less → T (below_all R y es) → T (below_all R x es)
  below_later x y [] p h = tt
  below_later x y (e ∷ es) p h = let q = parts _ _ h in both _ _ (is_less _ (o.trans x y e.0 p (less _ q.0))) (below_later x y es p q.1)

  pub below_equal : (x y : K) (es : List (K × X)) → R x y ≡ Equal → T (below_all R y es) → T (below_all R x es)
  below_equal x y es e h = grind (arith, common_steps, parts, both, is_less, less)

  -- the comparisons with k rise along the list
  pub rise : (es : List (K × X)) (k : K) → T (is_sorted R es) → IsNonDecreasingBy (λ e. ordering_index (R e.0 k)) es
  rise (e ∷ es) k h (suc i) (suc j) d le lt = rise es k (parts _ _ h).1 i j d (omega arith) (omega arith)
  rise es k h i j d le lt = grind (arith, common_steps, later, below_at, parts)
