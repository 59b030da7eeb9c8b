-- The numbers that pass a test.
use Rattle.std.specs.Prelude.{◌≡◌, ◌<◌, ◌+◌, ℕ, zero, suc, Bool, true, false, Option, Some, None, if◌then◌else◌}

-- the least number above n that passes, if one does
abbrev pub IsNext : (ℕ → Bool) → ℕ → Option ℕ → Type 0
IsNext p n None = (k : ℕ) → n < k → p k ≡ false
IsNext p n (Some m) = (n < m) × (p m ≡ true) × ((k : ℕ) → n < k → k < m → p k ≡ false)

-- how many of the numbers from 1 to that one pass
abbrev pub count_upto : (ℕ → Bool) → ℕ → ℕ
count_upto p zero = 0
count_upto p (suc n) = count_upto p n + (if p (suc n) then 1 else 0)
