-- How much is buffered of writes.
use Rattle.std.proofs.Common.{◌≡◌, ◌≢◌, ◌<◌, ◌⊎◌, ℕ, ◌+◌, ◌-◌, ◌^◌, min, true, false, List, [], ◌∷◌, ◌++◌, None, ap}
use Rattle.std.proofs.Common.{subst, inl, inr, arith, append_assoc}
use Rattle.std.proofs.lemmas.Grind.{common_steps}
use Rattle.std.proofs.lemmas.List.Sums.{sum_by_push}
use Rattle.std.specs.Cmp.Lexicographic.{nat_list_cmp_total}
use Rattle.std.specs.Ordering.{is_eq, is_lt, is_gt}
use Rattle.std.specs.declared.cmp.Ordering.{Ordering}
use Rattle.std.specs.declared.cmp.Ordering.TheVariants.{Less}
use Rattle.model.proofs.KeyOrder.{less}
use Rattle.model.proofs.Lookups.{same_key}
use Rattle.model.specs.Map.{Bytes, KeyWrite, key_cmp, is_same_key}
use Rattle.latest_writes.proofs.Sweeping.{IsUpTo}
use Rattle.latest_writes.specs.Buffered.{weight, HasOneOfEach, IsBuffered}

abbrev pub IsUnder : Bytes → Bytes → Type 0
IsUnder j k = is_lt (key_cmp j k) ≡ true

under_or_same : (o : Ordering) → is_gt o ≡ false → (o ≡ Less) ⊎ (is_eq o ≡ true)
under_or_same o e = grind (arith, common_steps)

under_upto : (i j k : Bytes) → IsUnder i j → IsUpTo j k → IsUnder i k
under_upto i j k lt le = elim (under_or_same (key_cmp j k) le) [
  | inl below ↦ ap is_lt (nat_list_cmp_total.trans i j k (less (key_cmp i j) lt) below)
  | inr same ↦ subst (λ (q : Bytes). IsUnder i q) (same_key j k same) lt
]

pub under : (w v : KeyWrite) → IsUpTo w.0 v.0 → is_same_key w.0 v.0 ≡ false → IsUnder w.0 v.0
under w v le apart = grind (arith, common_steps, under_or_same)

-- the last is left out for one that doesn't stand before it
pub one_for_last : (ws : List KeyWrite) (p e : KeyWrite) → HasOneOfEach (ws ++ p ∷ []) → IsUpTo p.0 e.0 → HasOneOfEach (ws ++ e ∷ [])
one_for_last [] p e h le = tt
one_for_last (w ∷ []) p e h le = (under_upto w.0 p.0 e.0 h.0 le, h.1, tt)
one_for_last (w ∷ v ∷ ws) p e h le = (h.0, h.1, one_for_last (v ∷ ws) p e h.2 le)

-- the last is kept, and another comes behind it
pub one_more : (ws : List KeyWrite) (p e : KeyWrite) → HasOneOfEach (ws ++ p ∷ []) → IsUnder p.0 e.0 → p.1 ≢ None → HasOneOfEach ((ws ++ p ∷ []) ++ e ∷ [])
one_more [] p e h lt some = (lt, some, tt)
one_more (w ∷ []) p e h lt some = (h.0, h.1, (lt, some, tt))
one_more (w ∷ v ∷ ws) p e h lt some = (h.0, h.1, one_more (v ∷ ws) p e h.2 lt some)

-- one write more, below the limit
pub held_more : (old new : List KeyWrite) (w : KeyWrite) (total limit more : ℕ) → IsBuffered old total limit → new ≡ old ++ w ∷ []
    → more ≡ min (total + weight w) (2 ^ 64 - 1) → more < limit → IsBuffered new more limit
held_more old new w total limit more held is more_is below = grind (arith, common_steps, sum_by_push, append_assoc)
