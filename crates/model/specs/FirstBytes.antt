-- The first bytes of a key as a number.
use Rattle.std.specs.Prelude.{ℕ, zero, suc, ◌+◌, ◌*◌, ◌^◌, ◌<◌, List, [], ◌∷◌, slice_index}

-- the number of the first n bytes, the highest first, with zeros behind the last
abbrev pub first_bytes : ℕ → List ℕ → ℕ
first_bytes zero xs = 0
first_bytes (suc n) [] = 0
first_bytes (suc n) (x ∷ xs) = x * 256 ^ n + first_bytes n xs

abbrev pub AreBytes : List ℕ → Type 0
AreBytes xs = (i : ℕ) → slice_index xs i < 256
