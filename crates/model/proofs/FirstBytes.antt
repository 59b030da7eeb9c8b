-- The numbers of the first bytes of two keys stand as the keys do, where they differ.
use Rattle.std.proofs.Common.{◌≡◌, ℕ, zero, suc, ◌+◌, ◌*◌, ◌^◌, ◌<◌, ◌≤◌, List, [], ◌∷◌, refl, ap, arith}
use Rattle.std.proofs.Math.Nat.{mul-le-mul_left}
use Rattle.std.proofs.lemmas.Cmp.{ranked}
use Rattle.std.proofs.lemmas.Grind.{common_steps}
use Rattle.std.specs.Cmp.Lexicographic.{slice_cmp}
use Rattle.std.specs.Ordering.{nat_cmp, ordering_then}
use Rattle.std.specs.declared.cmp.Ordering.{Ordering}
use Rattle.std.specs.declared.cmp.Ordering.TheVariants.{Less}
use Rattle.model.specs.FirstBytes.{AreBytes, first_bytes}

pub first_bytes_fit : (n : ℕ) (xs : List ℕ) → AreBytes xs → first_bytes n xs < 256 ^ n
first_bytes_fit zero xs h = omega arith
first_bytes_fit (suc n) [] h = let p : 0 < 256 ^ n = omega (arith, first_bytes_fit n [] h) in omega arith
first_bytes_fit (suc n) (x ∷ xs) h =
    omega (arith, first_bytes_fit n xs (λ i. h (suc i)), mul-le-mul_left (256 ^ n) (let b : x ≤ 255 = omega (arith, h 0) in b))

-- of two numbers in base P the greater first digit decides
pub above : (P x y a b : ℕ) → a < P → y < x → y * P + a < x * P + b
above P x y a b fits lt = let m : P * (y + 1) ≤ P * x = mul-le-mul_left P (omega arith) in omega (arith, m)

pub then_less : (o : Ordering) (x y : ℕ) (rest : Ordering) → o ≡ nat_cmp x y → (x < y → Less ≡ Less) → (x ≡ y → rest ≡ Less)
    → (y < x → ordering_then o rest ≡ Less) → ordering_then o rest ≡ Less
then_less o x y rest is less same more = grind (arith, common_steps, ranked)

-- the first n bytes decide
pub less : (n : ℕ) (xs ys : List ℕ) → AreBytes xs → AreBytes ys → first_bytes n xs < first_bytes n ys → slice_cmp nat_cmp xs ys ≡ Less
less (suc n) (x ∷ xs) (y ∷ ys) h g lt =
    then_less (nat_cmp x y) x y (slice_cmp nat_cmp xs ys) refl (λ p. refl)
    (λ p. less n xs ys (λ i. h (suc i)) (λ i. g (suc i)) (let e : x * 256 ^ n ≡ y * 256 ^ n = ap (λ z. z * 256 ^ n) p in omega (arith, e)))
    (λ p. absurd (omega (arith, above (256 ^ n) x y (first_bytes n ys) (first_bytes n xs) (first_bytes_fit n ys (λ i. g (suc i))) p)))
less n xs ys h g lt = grind (arith, common_steps)
