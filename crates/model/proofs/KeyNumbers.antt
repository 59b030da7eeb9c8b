-- The first bytes of two keys as numbers, the highest first: where these differ, the keys stand as they do, and else as the bytes after them.
use Rattle.std.proofs.Common.{◌≡◌, ℕ, zero, suc, ◌+◌, ◌*◌, ◌^◌, ◌<◌, ◌≤◌, ◌≢◌, List, ◌∷◌, length, drop, slice_index}
use Rattle.std.proofs.Common.{refl, ap, arith, add-mul, mul-le-mul_right, nat_cmp}
use Rattle.std.proofs.lemmas.Bool.Decides.{nat_tests}
use Rattle.byteorder.specs.Endian.{big_number}
use Rattle.byteorder.specs.Numbers.{big_from-cons, big_from-lt}
use Rattle.model.specs.Map.{key_cmp}

abbrev pub AreBytes : List ℕ → Type 0
AreBytes xs = (k : ℕ) → slice_index xs k < 256

-- the first byte counts most
first : (n u : ℕ) (us : List ℕ) → big_number (suc n) (u ∷ us) ≡ u * 256 ^ n + big_number n us
first n u us = ap (λ (r : ℕ). u * 256 ^ n + r) (big_from-cons 0 n u us)

-- a smaller first byte makes the smaller number, whatever the others are
below : (n u v : ℕ) (us vs : List ℕ) → AreBytes us → u < v → u * 256 ^ n + big_number n us < v * 256 ^ n + big_number n vs
below n u v us vs g l =
    let rest = big_from-lt 0 n us g in
    let top : (u + 1) * 256 ^ n ≤ v * 256 ^ n = mul-le-mul_right (256 ^ n) (omega arith) in
    let next = add-mul u 1 (256 ^ n) in
    omega arith

pub apart : (n : ℕ) (us vs : List ℕ) → n ≤ length us → n ≤ length vs → AreBytes us → AreBytes vs
    → (big_number n us ≢ big_number n vs) → nat_cmp (big_number n us) (big_number n vs) ≡ key_cmp us vs
apart zero us vs p q g h f = absurd (f refl)
apart (suc n) (u ∷ us) (v ∷ vs) p q g h f =
    let rest = apart n us vs (omega arith) (omega arith) (λ k. g (suc k)) (λ k. h (suc k)) in
    let under = below n u v us vs (λ k. g (suc k)) in
    let over = below n v u vs us (λ k. h (suc k)) in
    grind (arith, nat_tests, first n u us, first n v vs)
apart n us vs p q g h f = absurd (omega arith)

pub alike : (n : ℕ) (us vs : List ℕ) → n ≤ length us → n ≤ length vs → AreBytes us → AreBytes vs
    → big_number n us ≡ big_number n vs → key_cmp us vs ≡ key_cmp (drop n us) (drop n vs)
alike zero us vs p q g h e = refl
alike (suc n) (u ∷ us) (v ∷ vs) p q g h e =
    let rest = alike n us vs (omega arith) (omega arith) (λ k. g (suc k)) (λ k. h (suc k)) in
    let under = below n u v us vs (λ k. g (suc k)) in
    let over = below n v u vs us (λ k. h (suc k)) in
    grind (arith, nat_tests, first n u us, first n v vs)
alike n us vs p q g h e = absurd (omega arith)
