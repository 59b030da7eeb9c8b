-- Marks by their places.
use Rattle.std.specs.List.{list_any}
use Rattle.std.specs.Prelude.{◌≡◌, ℕ, zero, suc, Bool, List, [], ◌∷◌, ◌++◌, ◌&&◌, take, drop}
use Rattle.model.specs.Map.{Bytes}
use Rattle.model.specs.PrivateCopy.{Mark, is_covered}
use Rattle.pivot_check.specs.Postings.{Posting, is_asked}

-- the places below this one
abbrev pub places_upto : ℕ → List ℕ
places_upto zero = []
places_upto (suc n) = places_upto n ++ n ∷ []

-- whether the mark at one of these places covers the key
abbrev pub is_covered_at : List Mark → List ℕ → Bytes → Bool
is_covered_at ms places k = list_any (λ i. is_covered (take 1 (drop i ms)) k) places

-- the marks at these places are all marks, as far as a key can tell
abbrev pub AreAllPlaces : List Mark → List ℕ → Type 0
AreAllPlaces ms places = (k : Bytes) → is_covered_at ms places k ≡ is_covered ms k

-- what is asked of a posting: the mark at one of these places covers its key, and the rest
abbrev pub covered_at : List Mark → List ℕ → ℕ → Bool → Posting → Bool
covered_at ms places b flagged p = is_covered_at ms places p.key && is_asked b flagged p

-- so it is of the mark at one place
abbrev pub asked_there : List Mark → ℕ → ℕ → Bool → Posting → Bool
asked_there ms place b flagged p = covered_at ms (place ∷ []) b flagged p
