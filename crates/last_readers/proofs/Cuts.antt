-- Numbers that count as none up to another.
use Rattle.std.proofs.Common.{◌≡◌, ◌≤◌, ℕ, arith}
use Rattle.std.proofs.lemmas.Bool.Decides.{nat_tests}
use Rattle.std.specs.Prelude.{max}
use Rattle.last_readers.specs.Steps.{cut}

-- one of several is no other above o
pub cut_either : (o a b n : ℕ) → cut o a ≡ cut o b → cut o (max a n) ≡ cut o (max b n)
cut_either o a b n same = grind (arith, nat_tests)

-- above the later of two
pub cut_twice : (o m n : ℕ) → o ≤ m → cut m (cut o n) ≡ cut m n
cut_twice o m n le = grind (arith, nat_tests)

-- what is the same above one number is so above a later one
pub cut_later_same : (o m a b : ℕ) → o ≤ m → cut o a ≡ cut o b → cut m a ≡ cut m b
cut_later_same o m a b le same = grind (arith, nat_tests)

-- what was cut is not cut again
pub cut_again : (o n m : ℕ) → m ≡ cut o n → m ≡ cut o m
cut_again o n m is = grind (arith, nat_tests)
