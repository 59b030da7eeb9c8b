-- What trimming a value does to entries.
use Rattle.std.specs.Cmp.Lexicographic.{slice_cmp}
use Rattle.std.specs.FinMap.Entries.{find, put}
use Rattle.std.specs.Ordering.{nat_cmp}
use Rattle.std.specs.Prelude.{Bool, false, List, Option, Some, None, option_map}
use Rattle.model.specs.Map.{Bytes}

abbrev pub put_some : {X : Type 0} → Bytes → Option X → List (Bytes × X) → List (Bytes × X)
put_some k None es = es
put_some k (Some v) es = put (slice_cmp nat_cmp) k v es

-- the entries with f of the key's value in its place, if it has one
abbrev pub changed_at : {X : Type 0} → (X → X) → Bytes → List (Bytes × X) → List (Bytes × X)
changed_at f k es = put_some k (option_map f (find (slice_cmp nat_cmp) k es)) es

-- there is a value, and it passes
abbrev pub passes : {X : Type 0} → (X → Bool) → Option X → Bool
passes p None = false
passes p (Some v) = p v
