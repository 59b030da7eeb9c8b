-- How many elements moves take at most.
use Rattle.std.proofs.Common.{◌≡◌, ◌≤◌, ◌+◌, ◌*◌, ◌-◌, ℕ, ap, ◌∙◌, arith}
use Rattle.std.proofs.Math.Nat.{mul-add}

spread : (each m n : ℕ) → n ≤ m → each * m ≡ each * (m - n) + each * n
spread each m n le = let is : m ≡ (m - n) + n = omega arith in ap (λ k. each * k) is ∙ mul-add each (m - n) n

pub one_more : (each n : ℕ) → each * (n + 1) ≡ each * n + each * 1
one_more each n = mul-add each n 1

-- some moves are left of those that were left, and what is left to move was left before
pub slower : (each most rest less was left now : ℕ) → rest ≤ most → less ≤ rest → was ≤ left + each * (most - rest) → left ≤ now + each * (rest - less)
    → was ≤ now + each * (most - less)
slower each most rest less was left now le fewer before after =
    let is : most - less - (rest - less) ≡ most - rest = omega arith in
    let moves = spread each (most - less) (rest - less) (omega arith) in
    let more = ap (λ n. each * n) is in
    omega (arith, moves, more, before, after)

pub slowest : (each most rest was now : ℕ) → rest ≤ most → was ≤ now + each * (most - rest) → was ≤ now + each * most
slowest each most rest was now le before = let moves = spread each most rest le in omega (arith, moves, before)

-- one run is merged on, the others stay
pub as_slow : (was now left less took : ℕ) → now + left ≡ was + less → left ≤ less + took → was ≤ now + took
as_slow was now left less took is slow = omega arith
