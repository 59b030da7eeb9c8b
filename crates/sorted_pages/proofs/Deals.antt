-- Entries that are dealt to two vectors.
use Rattle.std.proofs.Common.{◌≡◌, ℕ, ◌<◌, ◌≤◌, List, [], ◌∷◌, ◌++◌, length, arith}
use Rattle.std.proofs.lemmas.Grind.{common_steps}
use Rattle.std.proofs.lemmas.List.{append_assoc, length-append}

-- the lower ones are the first of all, up to a place, the upper ones follow, and the rest is still to come
pub record Dealt {E : Type 0} (at : ℕ) (all rest lower upper : List E) : Type 0 where
  pub whole : all ≡ lower ++ (upper ++ rest)
  pub few : length lower ≤ at
  pub full : 0 < length upper → length lower ≡ at

module _ {E : Type 0} where
  pub dealt-lower : (at : ℕ) (all rest rest' lower lower' upper : List E) (e : E) → rest ≡ e ∷ rest' → lower' ≡ lower ++ e ∷ [] → length lower < at
      → Dealt at all rest lower upper → Dealt at all rest' lower' upper
  dealt-lower at all rest rest' lower lower' upper e first more room d = grind (arith, common_steps, append_assoc, length-append)

  pub dealt-upper : (at : ℕ) (all rest rest' lower upper upper' : List E) (e : E) → rest ≡ e ∷ rest' → upper' ≡ upper ++ e ∷ [] → at ≤ length lower
      → Dealt at all rest lower upper → Dealt at all rest' lower upper'
  dealt-upper at all rest rest' lower upper upper' e first more room d = grind (arith, common_steps, append_assoc, length-append)
