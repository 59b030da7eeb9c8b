-- The grammar of requests: which byte strings spell which list of parts. The framing is RESP2's: a request is an array
-- of bulk strings. The bounds are this project's own.
use Rattle.std.specs.Prelude.{◌≡◌, ℕ, ◌<◌, ◌≤◌, List, [], ◌∷◌, ◌++◌, length, take, All, flat_map, decimal}
use Rattle.model.specs.Bounds.{value_max}

-- carriage return, line feed
abbrev pub crlf : List ℕ
crlf = 13 ∷ 10 ∷ []

-- a bulk string: `$`, the length, the line's end, the bytes, the line's end
abbrev pub bulk : List ℕ → List ℕ
bulk bytes = 36 ∷ decimal (length bytes) ++ crlf ++ bytes ++ crlf

-- an array: `*`, the number of parts, the line's end, the parts
abbrev pub array_of_bulks : List (List ℕ) → List ℕ
array_of_bulks parts = 42 ∷ decimal (length parts) ++ crlf ++ flat_map bulk parts

-- a part may be empty, and has no more bytes than a value may have
pub record IsPart (part : List ℕ) : Type 0 where
  pub short : length part ≤ value_max
  pub bytes : All (λ b. b < 256) part

-- a request has 1 to 4 parts
pub record IsRequest (parts : List (List ℕ)) : Type 0 where
  pub some : 1 ≤ length parts
  pub few : length parts ≤ 4
  pub each : All IsPart parts

-- these bytes spell the request of these parts
abbrev pub Spells : List ℕ → List (List ℕ) → Type 0
Spells text parts = IsRequest parts × (text ≡ array_of_bulks parts)

-- the first n bytes of the input spell the request of these parts
abbrev pub FrontSpells : List ℕ → ℕ → List (List ℕ) → Type 0
FrontSpells input n parts = (n ≤ length input) × Spells (take n input) parts

-- these bytes and at least one more spell some request
abbrev pub IsProperBeginning : List ℕ → Type 0
IsProperBeginning text = (more : List ℕ) × (parts : List (List ℕ)) × (1 ≤ length more) × Spells (text ++ more) parts

-- no spelling begins another, whatever follows either of them, and each spells one request alone
abbrev pub OneSpelling : Type 0
OneSpelling = (p q more others : List ℕ) (ps qs : List (List ℕ)) →
    Spells p ps → Spells q qs → p ++ more ≡ q ++ others → (p ≡ q) × (ps ≡ qs)
