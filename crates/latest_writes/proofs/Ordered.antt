-- The first bytes of two keys stand as the keys do, where they differ.
use Rattle.std.proofs.Common.{◌≡◌, ℕ, suc, ◌*◌, ◌^◌, ◌<◌, List, ◌∷◌, drop, refl, ap, arith}
use Rattle.std.proofs.lemmas.Cmp.{ranked, by_ranked}
use Rattle.std.proofs.lemmas.Grind.{common_steps}
use Rattle.std.specs.Cmp.Lexicographic.{slice_cmp}
use Rattle.std.specs.Ordering.{nat_cmp}
use Rattle.std.specs.declared.cmp.Ordering.{Ordering}
use Rattle.std.specs.declared.cmp.Ordering.TheVariants.{Less}
use Rattle.model.proofs.FirstBytes.{above, first_bytes_fit, less, then_less}
use Rattle.model.proofs.KeyOrder.{turned_less}
use Rattle.model.specs.FirstBytes.{AreBytes, first_bytes}

-- where they are the same, the next m bytes
pub less_behind : (n m : ℕ) (xs ys : List ℕ) → AreBytes xs → AreBytes ys → first_bytes n xs ≡ first_bytes n ys
    → first_bytes m (drop n xs) < first_bytes m (drop n ys)
    → slice_cmp nat_cmp xs ys ≡ Less
less_behind (suc n) (suc m) (x ∷ xs) (y ∷ ys) h g same lt =
    then_less (nat_cmp x y) x y (slice_cmp nat_cmp xs ys) refl (λ p. refl)
    (λ p. less_behind n (suc m) xs ys (λ i. h (suc i)) (λ i. g (suc i)) (let e : x * 256 ^ n ≡ y * 256 ^ n = ap (λ z. z * 256 ^ n) p in omega (arith, e)) lt)
    (λ p. absurd (omega (arith, above (256 ^ n) x y (first_bytes n ys) (first_bytes n xs) (first_bytes_fit n ys (λ i. g (suc i))) p)))
less_behind n m xs ys h g same lt = grind (arith, common_steps, less)

-- numbers that differ stand as the keys do
pub by_first : (n : ℕ) (xs ys : List ℕ) (a b : ℕ) (o : Ordering) → AreBytes xs → AreBytes ys → a ≡ first_bytes n xs
    → b ≡ first_bytes n ys → (a ≡ b → ⊥) → o ≡ nat_cmp a b
    → o ≡ slice_cmp nat_cmp xs ys
by_first n xs ys a b o h g is_a is_b differ is = grind (arith, common_steps, by_ranked, ranked, less, turned_less)

pub by_next : (n m : ℕ) (xs ys : List ℕ) (a b c d : ℕ) (o : Ordering) → AreBytes xs → AreBytes ys → c ≡ first_bytes n xs → d ≡ first_bytes n ys → c ≡ d
    → a ≡ first_bytes m (drop n xs) → b ≡ first_bytes m (drop n ys) → (a ≡ b → ⊥) → o ≡ nat_cmp a b → o ≡ slice_cmp nat_cmp xs ys
by_next n m xs ys a b c d o h g is_c is_d same is_a is_b differ is = grind (arith, common_steps, by_ranked, ranked, less_behind, turned_less)
