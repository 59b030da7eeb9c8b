-- Entries of a range, and pairs with writes over them.
use Rattle.std.proofs.Common.{arith, ◌≡◌, ℕ, Bool, true, false, T, not, cond, List, [], ◌∷◌, ◌-◌, length, take, drop}
use Rattle.std.proofs.Common.{Option, Some, None, refl, sym, ap, subst, ◌∙◌}
use Rattle.std.proofs.Math.Seq.{take-length}
use Rattle.std.proofs.lemmas.Grind.{common_steps}
use Rattle.std.proofs.lemmas.List.{length-drop}
use Rattle.std.proofs.lemmas.Map.Lookups.{exact_bytes}
use Rattle.std.specs.Cmp.Lexicographic.{slice_cmp, nat_list_cmp_total}
use Rattle.std.specs.FinMap.Entries.{where_key, is_sorted, below_all, by_order, is_sorted-where_key, find-where_key}
use Rattle.std.specs.Ordering.{is_lt, is_le, nat_cmp, ordering_reverse}
use Rattle.std.specs.declared.cmp.Ordering.{Ordering}
use Rattle.std.specs.declared.cmp.Ordering.TheVariants.{Less, Equal, Greater}
use Rattle.model.proofs.Entries.{turned}
use Rattle.model.proofs.InOrder.{parts, both, less, is_less, find_none, below_later}
use Rattle.model.proofs.KeyOrder.{turned_greater}
use Rattle.model.proofs.Lookups.{same_key, same_map, value_in_range, IsMap-after_writes}
use Rattle.model.specs.Map.{Bytes, KeyMap, KeyWrite, IsMap, key_cmp, is_same_key, value_at, after_writes, is_below}
use Rattle.model.specs.Map.{is_in_range, pairs_in_range}
use Rattle.versions.proofs.Visibles.{where_twice}
use Rattle.write_buffer.specs.Buffered.{last_write}
use Rattle.snapshot.proofs.Copies.{value_held}
use Rattle.snapshot.specs.Merged.{with_pair, merged, merged_one}
use Rattle.snapshot.specs.View.{or_else}

pub rest_all : {X : Type 0} (l : List X) (a : ℕ) → take (length l - a) (drop a l) ≡ drop a l
rest_all l a = ap (λ n. take n (drop a l)) (sym (length-drop a l)) ∙ take-length (drop a l)

turned_le : (o : Ordering) → is_le o ≡ not (is_lt (ordering_reverse o))
turned_le o = grind (arith, common_steps)

pub all-below : {X : Type 0} (es : List (Bytes × X)) → where_key (slice_cmp nat_cmp) (λ q. is_below q None) es ≡ es
all-below [] = refl
all-below (e ∷ es) = ap (λ l. e ∷ l) (all-below es)

pub sorted-where : {X : Type 0} (p : Bytes → Bool) (es : List (Bytes × X)) → T (is_sorted (slice_cmp nat_cmp) es)
    → T (is_sorted (slice_cmp nat_cmp) (where_key (slice_cmp nat_cmp) p es))
sorted-where p es h = is_sorted-where_key (slice_cmp nat_cmp) p es h

pub span : {X : Type 0} (lo : Bytes) (hi : Option Bytes) (es fs gs : List (Bytes × X)) → fs ≡ where_key (slice_cmp nat_cmp) (λ q. is_below q hi) es
    → gs ≡ where_key (slice_cmp nat_cmp) (λ q. not (is_lt (key_cmp q lo))) fs → gs ≡ where_key (slice_cmp nat_cmp) (is_in_range lo hi) es
span lo hi es fs gs below from = grind (arith, common_steps, where_key, slice_cmp, where_twice, turned_le, turned)

-- ---- merged pairs

abbrev pub IsAbove : {X : Type 0} → Bytes → List (Bytes × X) → Type 0
IsAbove k es = T (below_all (slice_cmp nat_cmp) k es)

above-with : (j k : Bytes) (v : Option Bytes) (ps : KeyMap) → key_cmp j k ≡ Less → IsAbove j ps → IsAbove j (with_pair k v ps)
above-with j k None ps o h = h
above-with j k (Some v) ps o h = both _ _ (is_less _ o) h

above_one : (j : Bytes) (w : KeyWrite) (f : KeyMap → KeyMap) → ((ps : KeyMap) → IsAbove j ps → IsAbove j (f ps)) → key_cmp j w.0 ≡ Less → (ps : KeyMap)
    → IsAbove j ps → IsAbove j (merged_one w f ps)
above_one j w f h o [] g = above-with j w.0 w.1 (f []) o (h [] g)
above_one j w f h o (p ∷ ps) g =
    let y = parts (is_lt (key_cmp j p.0)) (below_all (slice_cmp nat_cmp) j ps) g in
    let before = above-with j w.0 w.1 (f (p ∷ ps)) o (h (p ∷ ps) g) in
    let here = above-with j w.0 w.1 (f ps) o (h ps y.1) in
    grind (arith, common_steps, both, above_one j w f h o ps y.1)

above-merged : (j : Bytes) (ws : List KeyWrite) (ps : KeyMap) → IsAbove j ws → IsAbove j ps → IsAbove j (merged ws ps)
above-merged j [] ps h g = g
above-merged j (w ∷ ws) ps h g = let y = parts _ _ h in above_one j w (merged ws) (λ qs x. above-merged j ws qs y.1 x) (less _ y.0) ps g

sorted-with : (k : Bytes) (v : Option Bytes) (ps : KeyMap) → IsAbove k ps → IsMap ps → IsMap (with_pair k v ps)
sorted-with k None ps a h = h
sorted-with k (Some v) ps a h = both _ _ a h

-- what stands above w and among the pairs
record Rest (w : KeyWrite) (ws : List KeyWrite) (f : KeyMap → KeyMap) : Type 0 where
  above : (j : Bytes) (ps : KeyMap) → IsAbove j ws → IsAbove j ps → IsAbove j (f ps)
  maps : (ps : KeyMap) → IsMap ps → IsMap (f ps)
  found : (q : Bytes) (ps : KeyMap) → IsMap ps → value_at (f ps) q ≡ or_else (last_write ws q) (value_at ps q)
  first : IsAbove w.0 ws

is_map_one : (w : KeyWrite) (ws : List KeyWrite) (f : KeyMap → KeyMap) → Rest w ws f → (ps : KeyMap) → IsMap ps → IsMap (merged_one w f ps)
is_map_one w ws f r [] h = sorted-with w.0 w.1 (f []) (r.above w.0 [] r.first tt) (r.maps [] tt)
is_map_one w ws f r (p ∷ ps) h =
    let y = parts _ _ h in
    elim (key_cmp w.0 p.0) as (λ o. key_cmp w.0 p.0 ≡ o
    → IsMap (by_order o (with_pair w.0 w.1 (f (p ∷ ps))) (with_pair w.0 w.1 (f ps)) (p ∷ merged_one w f ps))) [
      | Less ↦ λ o. sorted-with w.0 w.1 (f (p ∷ ps)) (r.above w.0 (p ∷ ps) r.first (both _ _ (is_less _ o) (below_later nat_list_cmp_total w.0 p.0 ps o y.0)))
          (r.maps (p ∷ ps) h)
      | Equal ↦ λ o. sorted-with w.0 w.1 (f ps) (r.above w.0 ps r.first (subst (λ k. IsAbove k ps) (sym (exact_bytes w.0 p.0 o)) y.0)) (r.maps ps y.1)
      | Greater ↦ λ o. both _ _
          (above_one p.0 w f (λ qs x. r.above p.0 qs (below_later nat_list_cmp_total p.0 w.0 ws (turned_greater w.0 p.0 o) r.first) x)
          (turned_greater w.0 p.0 o) ps y.0) (is_map_one w ws f r ps y.1)
    ] refl

-- a write before what f leaves
found-with : (q : Bytes) (w : KeyWrite) (ws : List KeyWrite) (l : KeyMap) (v : Option Bytes) → IsAbove w.0 ws → IsAbove w.0 l
    → value_at l q ≡ or_else (last_write ws q) v → value_at (with_pair w.0 w.1 l) q ≡ or_else (cond (is_same_key q w.0) (Some w.1) (last_write ws q)) v
found-with q w ws l v a b e = grind (arith, common_steps, same_key q w.0, find_none key_cmp w.0 l b)

through : (b : Bool) (o : Option (Option Bytes)) (v : Bytes) (w : Option Bytes) → (b ≡ true → o ≡ None)
    → cond b (Some v) (or_else o w) ≡ or_else o (cond b (Some v) w)
through true o v w h = sym (ap (λ o. or_else o (Some v)) (h refl))
through false o v w h = refl

found_one : (q : Bytes) (w : KeyWrite) (ws : List KeyWrite) (f : KeyMap → KeyMap) → Rest w ws f → (ps : KeyMap) → IsMap ps
    → value_at (merged_one w f ps) q ≡ or_else (cond (is_same_key q w.0) (Some w.1) (last_write ws q)) (value_at ps q)
found_one q w ws f r [] h = found-with q w ws (f []) None r.first (r.above w.0 [] r.first tt) (r.found q [] tt)
found_one q w ws f r (p ∷ ps) h =
    let y = parts _ _ h in
    elim (key_cmp w.0 p.0) as (λ o. key_cmp w.0 p.0 ≡ o
    → value_at (by_order o (with_pair w.0 w.1 (f (p ∷ ps))) (with_pair w.0 w.1 (f ps)) (p ∷ merged_one w f ps)) q
    ≡ or_else (cond (is_same_key q w.0) (Some w.1) (last_write ws q)) (value_at (p ∷ ps) q)) [
      | Less ↦ λ o. found-with q w ws (f (p ∷ ps)) (value_at (p ∷ ps) q) r.first
          (r.above w.0 (p ∷ ps) r.first (both _ _ (is_less _ o) (below_later nat_list_cmp_total w.0 p.0 ps o y.0))) (r.found q (p ∷ ps) h)
      | Equal ↦ λ o.
          let same : w.0 ≡ p.0 = exact_bytes w.0 p.0 o in
          found-with q w ws (f ps) (value_at ps q) r.first (r.above w.0 ps r.first (subst (λ k. IsAbove k ps) (sym same) y.0)) (r.found q ps y.1)
          ∙ hidden (is_same_key q w.0) (is_same_key q p.0) w.1 (last_write ws q) p.1 (value_at ps q) (ap (is_same_key q) same)
      | Greater ↦ λ o. ap (cond (is_same_key q p.0) (Some p.1)) (found_one q w ws f r ps y.1)
          ∙ through (is_same_key q p.0) (cond (is_same_key q w.0) (Some w.1) (last_write ws q)) p.1 (value_at ps q)
          (λ t. ap (λ k. cond (is_same_key k w.0) (Some w.1) (last_write ws k)) (same_key q p.0 t)
          ∙ find_none key_cmp p.0 (w
          ∷ ws) (both _ _ (is_less _ (turned_greater w.0 p.0 o)) (below_later nat_list_cmp_total p.0 w.0 ws (turned_greater w.0 p.0 o) r.first)))
    ] refl
  where
    hidden : (a b : Bool) (x : Option Bytes) (o : Option (Option Bytes)) (v : Bytes) (z : Option Bytes) → a ≡ b
        → or_else (cond a (Some x) o) z ≡ or_else (cond a (Some x) o) (cond b (Some v) z)
    hidden a b x o v z same = grind (arith, common_steps)

-- both at once: the pairs stay in order, and each key has its write's value or its pair's
record Merging (ws : List KeyWrite) : Type 0 where
  maps : (ps : KeyMap) → IsMap ps → IsMap (merged ws ps)
  found : (q : Bytes) (ps : KeyMap) → IsMap ps → value_at (merged ws ps) q ≡ or_else (last_write ws q) (value_at ps q)

merging : (ws : List KeyWrite) → T (is_sorted (slice_cmp nat_cmp) ws) → Merging ws
merging [] h = record { maps = λ ps g. g; found = λ q ps g. refl }
merging (w ∷ ws) h =
    let y = parts _ _ h in
    let m = merging ws y.1 in
    let r : Rest w ws (merged ws) = record { above = λ j ps x z. above-merged j ws ps x z; maps = m.maps; found = m.found; first = y.0 } in
    record { maps = is_map_one w ws (merged ws) r; found = λ q. found_one q w ws (merged ws) r }

-- the merged pairs of a range are those of the map with the writes in it
pub merged-range : (m : KeyMap) (ws : List KeyWrite) (lo : Bytes) (hi : Option Bytes) → IsMap m → T (is_sorted (slice_cmp nat_cmp) ws)
    → merged (where_key (slice_cmp nat_cmp) (is_in_range lo hi) ws) (pairs_in_range m lo hi) ≡ pairs_in_range (after_writes m ws) lo hi
merged-range m ws lo hi h s =
    let us = where_key (slice_cmp nat_cmp) (is_in_range lo hi) ws in
    let inside : IsMap (pairs_in_range m lo hi) = sorted-where (is_in_range lo hi) m h in
    let g = merging us (sorted-where (is_in_range lo hi) ws s) in
    let whole = sorted-where (is_in_range lo hi) (after_writes m ws) (IsMap-after_writes m ws h) in
    same_map (merged us (pairs_in_range m lo hi)) (pairs_in_range (after_writes m ws) lo hi) (g.maps (pairs_in_range m lo hi) inside) whole (λ q.
    let own = find-where_key (slice_cmp nat_cmp) (is_in_range lo hi) q (λ x t. ap (is_in_range lo hi) (sym (exact_bytes q x t))) ws in
    let found = g.found q (pairs_in_range m lo hi) inside in
    grind (arith, common_steps, value_in_range m lo hi q, value_held ws m q s, value_in_range (after_writes m ws) lo hi q))
