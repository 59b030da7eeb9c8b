-- Which answer of `decode` it is.
use Rattle.std.specs.Prelude.{◌≡◌, ℕ, List}
use Rattle.resp.specs.declared.decoding.Decoded.{Decoded}
use Rattle.resp.specs.declared.decoding.Decoded.TheVariants.{Whole, More, Bad}

-- a request of these parts, spelled by n bytes
abbrev pub IsWhole : Decoded → List (List ℕ) → ℕ → Type 0
IsWhole (Whole request used) parts n = (request ≡ parts) × (used ≡ n)
IsWhole More parts n = ⊥
IsWhole Bad parts n = ⊥

-- more bytes are needed
abbrev pub IsMore : Decoded → Type 0
IsMore (Whole request used) = ⊥
IsMore More = Unit {0}
IsMore Bad = ⊥

-- no request begins so
abbrev pub IsBad : Decoded → Type 0
IsBad (Whole request used) = ⊥
IsBad More = ⊥
IsBad Bad = Unit {0}
