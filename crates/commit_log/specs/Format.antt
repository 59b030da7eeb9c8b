-- What the formats of the log differ in: the head, and the most bytes of a value. All else follows.
use Rattle.std.specs.Prelude.{ℕ, List, [], ◌∷◌, ◌++◌, replicate}
use Rattle.model.specs.Bounds.{value_max}
use Rattle.commit_log.specs.declared.formats.LogFormat.{LogFormat}
use Rattle.commit_log.specs.declared.formats.LogFormat.TheVariants.{One, Two}

-- the format that is written
abbrev pub current : LogFormat
current = Two

-- the most bytes of a value
abbrev pub value_bound : LogFormat → ℕ
value_bound One = 4096
value_bound Two = value_max

-- the last byte of the head, a digit
abbrev pub version_byte : LogFormat → ℕ
version_byte One = 49
version_byte Two = 50

-- the first sector: `SSIKVLG1` or `SSIKVLG2`, and zeros
unfoldable pub head_sector : LogFormat → List ℕ
head_sector f = (83 ∷ 83 ∷ 73 ∷ 75 ∷ 86 ∷ 76 ∷ 71 ∷ version_byte f ∷ []) ++ replicate 504 0

-- what a format is called
abbrev pub format_number : LogFormat → ℕ
format_number One = 1
format_number Two = 2
