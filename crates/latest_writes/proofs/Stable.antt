-- Writes that are sorted by key, those of one key in their order, make the map that they made.
use Rattle.std.proofs.Common.{arith, ◌≡◌, true, false, not, cond, ◌&&◌, List, [], ◌∷◌, ◌++◌, Option, None, refl, sym}
use Rattle.std.proofs.Common.{ap, ◌∙◌}
use Rattle.std.proofs.lemmas.Grind.{common_steps}
use Rattle.std.proofs.lemmas.List.Sorted.{ranks_by}
use Rattle.std.specs.Cmp.{IsStrictWeakOrder}
use Rattle.std.specs.Cmp.Lexicographic.{nat_list_cmp_total}
use Rattle.std.specs.List.{filter}
use Rattle.std.specs.List.Sorted.{ties, IsStableBy}
use Rattle.std.specs.Ordering.{is_eq, is_lt, ordering_reverse}
use Rattle.std.specs.declared.cmp.Ordering.{Ordering}
use Rattle.model.proofs.Lookups.{value_after_write, IsMap-after_writes, value_after_alike, same_map}
use Rattle.model.specs.Map.{Bytes, KeyMap, KeyWrite, value_at, key_cmp, is_same_key, after_write, after_writes}
use Rattle.latest_writes.specs.Rising.{has_lower_key}

pub after_writes-push : (m : KeyMap) (ws : List KeyWrite) (w : KeyWrite) → after_writes m (ws ++ w ∷ []) ≡ after_write (after_writes m ws) w.0 w.1
after_writes-push m [] w = refl
after_writes-push m (x ∷ ws) w = after_writes-push (after_write m x.0 x.1) ws w

-- one write more
pub pushed : (new old : List KeyWrite) (v w : KeyWrite) (m : KeyMap) → new ≡ old ++ v ∷ [] → v ≡ w → after_writes [] old ≡ m
    → after_writes [] new ≡ after_write m w.0 w.1
pushed new old v w m is same so_far = grind (arith, common_steps, after_writes-push)

-- ---- only the writes to a key count there

pub is_before_order : IsStrictWeakOrder has_lower_key
is_before_order = ranks_by nat_list_cmp_total (λ (w : KeyWrite). w.0)

no_less : (o : Ordering) → (not (is_lt o) && not (is_lt (ordering_reverse o))) ≡ is_eq o
no_less o = grind (arith, common_steps)

-- such a list ties just the writes to one key
ties_same : (q : Bytes) (v : Option Bytes) (w : KeyWrite) → ties has_lower_key (q, v) w ≡ is_same_key q w.0
ties_same q v w = ap (λ o. not (is_lt (key_cmp q w.0)) && not (is_lt o)) (nat_list_cmp_total.antisymm w.0 q) ∙ no_less (key_cmp q w.0)

counted : (ws : List KeyWrite) (m : KeyMap) (q : Bytes)
    → value_at (after_writes m (filter (ties has_lower_key (q, None)) ws)) q ≡ value_at (after_writes m ws) q
counted [] m q = refl
counted (w ∷ ws) m q =
    elim (ties has_lower_key (q, None) w) as (λ b. ties has_lower_key (q, None) w ≡ b
    → value_at (after_writes m (cond b (w ∷ filter (ties has_lower_key (q, None)) ws) (filter (ties has_lower_key (q, None)) ws))) q
    ≡ value_at (after_writes (after_write m w.0 w.1) ws) q) [
      | true ↦ λ e. counted ws (after_write m w.0 w.1) q
      | false ↦ λ e. counted ws m q
          ∙ value_after_alike ws m (after_write m w.0 w.1) q
          (sym (value_after_write m w.0 w.1 q ∙ ap (λ b. cond b w.1 (value_at m q)) (sym (ties_same q None w) ∙ e)))
    ] refl

pub stable : (xs ys : List KeyWrite) → IsStableBy has_lower_key xs ys → after_writes [] ys ≡ after_writes [] xs
stable xs ys h = same_map _ _ (IsMap-after_writes [] ys tt) (IsMap-after_writes [] xs tt)
    (λ q. sym (counted ys [] q) ∙ ap (λ l. value_at (after_writes [] l) q) (h (q, None)) ∙ counted xs [] q)
