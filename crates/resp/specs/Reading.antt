-- What a reader of the front of some bytes answers, measured by a grammar, which says which texts have which values.
use Rattle.std.specs.Borrow.{Bor}
use Rattle.std.specs.Fmt.{decimal}
use Rattle.std.specs.Prelude.{◌≡◌, ℕ, ◌≤◌, List, ◌++◌, length, Result, Ok, Err}
use Rattle.model.specs.Bounds.{value_max}
use Rattle.model.specs.Grammar.{crlf, bulk, IsPart}
pub use Rattle.resp.specs.declared.decoding.Stop.{Stop}
pub use Rattle.resp.specs.declared.decoding.Stop.TheVariants.{More, Bad}

-- which texts have which values
abbrev pub Grammar : Type 0 → Type 1
Grammar V = List ℕ → V → Type 0

-- these bytes and at least one more are a text
abbrev pub IsCutShort : {V : Type 0} → Grammar V → List ℕ → Type 0
IsCutShort {V} G bytes = (more : List ℕ) × (value : V) × (1 ≤ length more) × G (bytes ++ more) value

-- no text begins with these bytes, and they begin with none
abbrev pub IsForeign : {V : Type 0} → Grammar V → List ℕ → Type 0
IsForeign {V} G bytes = (text more others : List ℕ) (value : V) → G text value → bytes ++ more ≡ text ++ others → ⊥

-- why there is no text at the front
abbrev pub Stops : {V : Type 0} → Grammar V → List ℕ → Stop → Type 0
Stops G bytes More = IsCutShort G bytes
Stops G bytes Bad = IsForeign G bytes

-- a text's value, seen by view, and the bytes after it, or why there is none
abbrev pub Reads : {X V : Type 0} → Grammar V → (X → V) → List ℕ → Result (X × Bor (List ℕ)) Stop → Type 0
Reads G view bytes (Ok found) = (text : List ℕ) × G text (view found.0) × (bytes ≡ text ++ found.1.now)
Reads G view bytes (Err e) = Stops G bytes e

-- one text alone
abbrev pub Only : List ℕ → Grammar (Unit {0})
Only word text _ = text ≡ word

-- the bytes after that text, or why it doesn't stand at the front
abbrev pub Passes : List ℕ → List ℕ → Result (Bor (List ℕ)) Stop → Type 0
Passes word bytes (Ok rest) = bytes ≡ word ++ rest.now
Passes word bytes (Err e) = Stops (Only word) bytes e

-- the line with a part's length
abbrev pub LengthLine : Grammar ℕ
LengthLine text n = (n ≤ value_max) × (text ≡ decimal n ++ crlf)

-- the line with the number of parts
abbrev pub CountLine : Grammar ℕ
CountLine text n = (1 ≤ n) × (n ≤ 4) × (text ≡ decimal n ++ crlf)

-- a part, as a bulk string
abbrev pub PartText : Grammar (List ℕ)
PartText text part = IsPart part × (text ≡ bulk part)
