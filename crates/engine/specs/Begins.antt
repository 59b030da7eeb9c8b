-- The begin numbers of the open transactions.
use Rattle.std.specs.Map.{values_of}
use Rattle.std.specs.Prelude.{◌≡◌, ℕ, List, Option, IfSome, map}
use Rattle.snapshot.specs.View.{View}

-- the numbers at which these transactions began
abbrev pub begins_of : List (ℕ × View) → List ℕ
begins_of es = map (λ t. t.begin) (values_of es)

-- the numbers, where there are some, are those of these transactions
abbrev pub AreGathered : Option (List ℕ) → List (ℕ × View) → Type 0
AreGathered gathered es = IfSome gathered (λ ns. ns ≡ begins_of es)
