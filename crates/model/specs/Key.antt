-- Which byte strings are keys, and which are values.
use Rattle.std.specs.Prelude.{ℕ, ◌≤◌, List, length}
use Rattle.model.specs.Bounds.{key_max, value_max}

-- a key has one byte at least
abbrev pub IsKey : List ℕ → Type 0
IsKey bytes = (1 ≤ length bytes) × (length bytes ≤ key_max)

-- a value may be empty
abbrev pub IsValue : List ℕ → Type 0
IsValue bytes = length bytes ≤ value_max
