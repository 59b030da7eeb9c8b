-- Entries by rising key in parts: what stands before a key and after it, and what `find` and `put` do in the middle.
use Rattle.std.proofs.Common.{◌≡◌, ◌<◌, true, false, cond, List, [], ◌∷◌, ◌++◌, length, Some, refl, ap, ◌∙◌, arith}
use Rattle.std.proofs.lemmas.Bool.{both_ways}
use Rattle.std.proofs.lemmas.Grind.{common_steps}
use Rattle.std.specs.Cmp.Lexicographic.{nat_list_cmp_total}
use Rattle.std.specs.FinMap.Entries.{find, put, by_order}
use Rattle.std.specs.Ordering.{is_eq, is_le}
use Rattle.std.specs.declared.cmp.Ordering.TheVariants.{Less, Equal, Greater}
use Rattle.model.proofs.Elements.{all-each}
use Rattle.model.proofs.Entries.{IsSorted, IsBelowAll, turned}
use Rattle.model.proofs.InOrder.{parts, less, both, is_less, below_right, below_later, find_none}
use Rattle.model.proofs.KeyOrder.{less_trans, same_keys, turned_less}
use Rattle.model.specs.Map.{Bytes, key_cmp}
use Rattle.sorted_pages.specs.Pages.{AreBelow, starts_by}

pub below_trans : (y x k : Bytes) → key_cmp y x ≡ Less → is_le (key_cmp x k) ≡ true → key_cmp y k ≡ Less
below_trans y x k lt le = grind (arith, less_trans y x k, same_keys x k)

-- a key that isn't at most k is above it
pub above_it : (x k : Bytes) → is_le (key_cmp x k) ≡ false → key_cmp k x ≡ Less
above_it x k f = grind (arith, common_steps, turned, both_ways)

module _ {X : Type 0} where
  -- the keys before an entry are below its key
  pub apart : (xs : List (Bytes × X)) (e : Bytes × X) (ys : List (Bytes × X)) → IsSorted (xs ++ e ∷ ys) → AreBelow e.0 xs
  apart [] e ys h = tt
  apart (x ∷ xs) e ys h = let p = parts _ _ h in (less _ (parts _ _ (below_right key_cmp x.0 xs (e ∷ ys) p.0)).0, apart xs e ys p.1)

  weaker : (x k : Bytes) (es : List (Bytes × X)) → is_le (key_cmp x k) ≡ true → AreBelow x es → AreBelow k es
  weaker x k es le h = all-each _ _ es (λ e lt. below_trans e.0 x k lt le) h

  -- the entries before a page that starts by k are below k
  pub below_of : (k : Bytes) (xs es rest : List (Bytes × X)) → IsSorted (xs ++ (es ++ rest)) → 0 < length es → starts_by k es ≡ true → AreBelow k xs
  below_of k xs es rest h f t = grind (arith, common_steps, weaker, apart)

  -- those from a page on that doesn't start by k are above k
  pub above_of : (k : Bytes) (es rest : List (Bytes × X)) → IsSorted (es ++ rest) → 0 < length es → starts_by k es ≡ false → IsBelowAll k (es ++ rest)
  above_of k [] rest h f n = absurd (omega arith)
  above_of k (e ∷ es) rest h f n = grind (arith, common_steps, above_it, both, is_less, below_later, nat_list_cmp_total, parts)

  -- what is below all of a page that starts by k is below k
  pub first_of : (x k : Bytes) (es : List (Bytes × X)) → IsBelowAll x es → 0 < length es → starts_by k es ≡ true → key_cmp x k ≡ Less
  first_of x k es h f t = grind (arith, common_steps, below_trans, less, parts)

  -- where the upper part starts by q, the lower does
  pub starts_lower : (q : Bytes) (lo up : List (Bytes × X)) → IsSorted (lo ++ up) → 0 < length up → starts_by q up ≡ true → starts_by q lo ≡ true
  starts_lower q lo up h f t = grind (arith, common_steps, first_of, below_right, parts)

  pub starts-append : (q : Bytes) (lo up : List (Bytes × X)) → 0 < length lo → starts_by q (lo ++ up) ≡ starts_by q lo
  starts-append q lo up f = grind (arith, common_steps)

  -- an entry that comes in after the first leaves the first
  pub starts-put : (q k : Bytes) (v : X) (es : List (Bytes × X)) → 0 < length es → starts_by k es ≡ true → starts_by q (put key_cmp k v es) ≡ starts_by q es
  starts-put q k v es f t = grind (arith, common_steps, both_ways, turned)

  pub filled-put : (k : Bytes) (v : X) (es : List (Bytes × X)) → 0 < length (put key_cmp k v es)
  filled-put k v [] = omega arith
  filled-put k v (e ∷ es) =
      elim (key_cmp k e.0) as (λ o. 0
      < length (by_order o ((k, v) ∷ e ∷ es) ((e.0, v) ∷ es) (e ∷ put key_cmp k v es))) [ Less ↦ omega arith | Equal ↦ omega arith | Greater ↦ omega arith ]

  -- ---- in the middle

  find_left : (k : Bytes) (m b : List (Bytes × X)) → IsBelowAll k b → find key_cmp k (m ++ b) ≡ find key_cmp k m
  find_left k [] b h = find_none key_cmp k b h
  find_left k (e ∷ m) b h = ap (λ r. cond (is_eq (key_cmp k e.0)) (Some e.1) r) (find_left k m b h)

  pub find_behind : (k : Bytes) (a m : List (Bytes × X)) → AreBelow k a → find key_cmp k (a ++ m) ≡ find key_cmp k m
  find_behind k [] m below = refl
  find_behind k (e ∷ a) m below = ap (λ o. cond (is_eq o) (Some e.1) (find key_cmp k (a ++ m))) (turned_less e.0 k below.0) ∙ find_behind k a m below.1

  pub find_middle : (k : Bytes) (a m b : List (Bytes × X)) → AreBelow k a → IsBelowAll k b → find key_cmp k (a ++ (m ++ b)) ≡ find key_cmp k m
  find_middle k a m b below above = find_behind k a (m ++ b) below ∙ find_left k m b above

  put_first : (k : Bytes) (v : X) (es : List (Bytes × X)) → IsBelowAll k es → put key_cmp k v es ≡ (k, v) ∷ es
  put_first k v [] h = refl
  put_first k v (e ∷ es) h = ap (λ o. by_order o ((k, v) ∷ e ∷ es) ((e.0, v) ∷ es) (e ∷ put key_cmp k v es)) (less _ (parts _ _ h).0)

  put_left : (k : Bytes) (v : X) (m b : List (Bytes × X)) → IsBelowAll k b → put key_cmp k v (m ++ b) ≡ put key_cmp k v m ++ b
  put_left k v [] b h = put_first k v b h
  put_left k v (e ∷ m) b h = grind (arith, put_left k v m b h)

  pub put_behind : (k : Bytes) (v : X) (a m : List (Bytes × X)) → AreBelow k a → put key_cmp k v (a ++ m) ≡ a ++ put key_cmp k v m
  put_behind k v [] m below = refl
  put_behind k v (e ∷ a) m below = grind (arith, common_steps, turned_less, put_behind k v a m below.1)

  pub put_middle : (k : Bytes) (v : X) (a m b : List (Bytes × X)) → AreBelow k a → IsBelowAll k b
      → put key_cmp k v (a ++ (m ++ b)) ≡ a ++ (put key_cmp k v m ++ b)
  put_middle k v a m b below above = put_behind k v a (m ++ b) below ∙ ap (λ l. a ++ l) (put_left k v m b above)
