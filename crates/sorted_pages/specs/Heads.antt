-- The first 16 bytes of a key as one number.
use Rattle.std.specs.Prelude.{◌≡◌, ℕ, List, [], ◌∷◌, ⊤}
use Rattle.model.specs.FirstBytes.{AreBytes, first_bytes}
use Rattle.model.specs.Map.{Bytes}

-- h is the number of the first 16 bytes of k
pub record IsHeadOf (k : Bytes) (h : ℕ) : Type 0 where
  pub number : h ≡ first_bytes 16 k
  pub bytes : AreBytes k

-- h is that of the first entry's key, if there is an entry
abbrev pub IsFirstHead : {X : Type 0} → List (Bytes × X) → ℕ → Type 0
IsFirstHead [] h = ⊤
IsFirstHead (e ∷ es) h = IsHeadOf e.0 h
