-- The bytes that lent keys and lent pairs show.
use Rattle.std.specs.Borrow.{Bor}
use Rattle.std.specs.Prelude.{List, ℕ, Option, option_map}
use Rattle.model.specs.declared.keys.KeyRef.{KeyRef}

-- the bytes of a lent key
abbrev pub key_bytes : KeyRef → List ℕ
key_bytes key = key.bytes.now

-- the upper end of a range, where there is one
abbrev pub end_bytes : Option KeyRef → Option (List ℕ)
end_bytes hi = option_map (λ k. k.bytes.now) hi

-- a lent pair's bytes
abbrev pub pair_bytes : KeyRef × Bor (List ℕ) → List ℕ × List ℕ
pair_bytes pair = (key_bytes pair.0, pair.1.now)
