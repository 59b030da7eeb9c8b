-- What the numbers see when chains change.
use Rattle.std.proofs.Common.{◌≡◌, ℕ, Bool, T, cond, ◌&&◌, List, [], ◌∷◌, Some, refl, arith}
use Rattle.std.specs.Cmp.Lexicographic.{slice_cmp, nat_list_cmp_total}
use Rattle.std.specs.FinMap.Entries.{put, where_key, below_all, find-put, is_sorted-put}
use Rattle.std.specs.Ordering.{nat_cmp}
use Rattle.model.proofs.Entries.{IsSorted, IsBelowAll}
use Rattle.model.proofs.InOrder.{find_none, parts}
use Rattle.model.proofs.Lookups.{same_key, same_map, value_after_write, IsMap-after_write}
use Rattle.model.specs.Map.{Bytes, key_cmp, IsMap, is_same_key, value_at, after_write}
use Rattle.sorted_pages.specs.Ranges.{shown}
use Rattle.versions.specs.Chains.{ChainValue, Chains, find_chain, hides, seen, seen_in, visible}

below_visible : (n : ℕ) (k : Bytes) (es : Chains) → IsBelowAll k es → T (below_all (slice_cmp nat_cmp) k (visible n es))
below_visible n k [] h = tt
below_visible n k (e ∷ es) h =
    grind (arith, below_visible n k es)

pub IsMap-visible : (n : ℕ) (es : Chains) → IsSorted es → IsMap (visible n es)
IsMap-visible n [] h = tt
IsMap-visible n (e ∷ es) h =
    grind (arith, below_visible n e.0 es, IsMap-visible n es)

-- what the map that n sees has at a key
pub value-visible : (n : ℕ) (q : Bytes) (es : Chains) → IsSorted es → value_at (visible n es) q ≡ seen_in n (find_chain q es)
value-visible n q [] h = refl
value-visible n q (e ∷ es) h =
    let p = parts _ _ h in
    grind (arith, value-visible n q es p.1, same_key q e.0, find_none key_cmp e.0 (visible n es) (below_visible n e.0 es p.0))

pub find_chain-put : (q k : Bytes) (c : ChainValue) (es : Chains)
    → find_chain q (put (slice_cmp nat_cmp) k c es) ≡ cond (is_same_key q k) (Some c) (find_chain q es)
find_chain-put q k c es = find-put (slice_cmp nat_cmp) nat_list_cmp_total q k c es

pub sorted-put : (k : Bytes) (c : ChainValue) (es : Chains) → IsSorted es → IsSorted (put (slice_cmp nat_cmp) k c es)
sorted-put k c es h = is_sorted-put (slice_cmp nat_cmp) nat_list_cmp_total k c es h

-- a chain in its place is a write of what n sees of it
pub visible-put : (n : ℕ) (k : Bytes) (c : ChainValue) (es : Chains) → IsSorted es
    → visible n (put (slice_cmp nat_cmp) k c es) ≡ after_write (visible n es) k (seen n c)
visible-put n k c es h =
    let new = put (slice_cmp nat_cmp) k c es in
    let written = IsMap-after_write (visible n es) k (seen n c) (IsMap-visible n es h) in
    same_map (visible n new) (after_write (visible n es) k (seen n c)) (IsMap-visible n new (sorted-put k c es h)) written (λ q.
    grind (
      arith,
      find_chain-put q k c es,
      value-visible n q new (sorted-put k c es h),
      value-visible n q es h,
      value_after_write (visible n es) k (seen n c) q,
    ))

-- a chain of which n sees what it saw changes nothing for n
pub visible-put_same : (n : ℕ) (k : Bytes) (c : ChainValue) (es : Chains) → IsSorted es → seen n c ≡ seen_in n (find_chain k es)
    → visible n (put (slice_cmp nat_cmp) k c es) ≡ visible n es
visible-put_same n k c es h same =
    let new = put (slice_cmp nat_cmp) k c es in
    same_map (visible n new) (visible n es) (IsMap-visible n new (sorted-put k c es h)) (IsMap-visible n es h) (λ q.
    grind (arith, find_chain-put q k c es, value-visible n q new (sorted-put k c es h), value-visible n q es h, same_key q k))

-- ---- parts by a key

pub visible-where : (n : ℕ) (p : Bytes → Bool) (es : Chains) → visible n (where_key (slice_cmp nat_cmp) p es) ≡ where_key (slice_cmp nat_cmp) p (visible n es)
visible-where n p [] = refl
visible-where n p (e ∷ es) = grind (arith, visible-where n p es)

pub visible-shown : (n : ℕ) (es : Chains) → visible n (shown (hides n) es) ≡ visible n es
visible-shown n [] = refl
visible-shown n (e ∷ es) = grind (arith, visible-shown n es)

-- first by one test and then by another
pub where_twice : {X : Type 0} (p q r : Bytes → Bool) → ((k : Bytes) → r k ≡ (p k && q k)) → (es : List (Bytes × X))
    → where_key (slice_cmp nat_cmp) p (where_key (slice_cmp nat_cmp) q es) ≡ where_key (slice_cmp nat_cmp) r es
where_twice p q r h [] = refl
where_twice p q r h (e ∷ es) = grind (arith, h e.0, where_twice p q r h es)
