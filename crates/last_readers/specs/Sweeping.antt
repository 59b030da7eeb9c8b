-- Steps of which numbers are forgotten, in place.
use Rattle.std.specs.Prelude.{◌≡◌, ℕ, List, [], ◌∷◌, ◌++◌, Option, Some, None, if◌then◌else◌, ⊤}
use Rattle.last_readers.specs.Steps.{StepValue, cut, cut_step, is_level_in}

-- the first step was taken off, and stands behind the others with 0 in the place of each number up to o, unless it says
-- then what is in force
pub record IsTurned (o : ℕ) (in_force later : Option ℕ) (xs ys : List StepValue) : Type 0 where
  pub step : StepValue
  pub rest : List StepValue
  pub was : xs ≡ step ∷ rest
  pub is : ys ≡ rest ++ (if is_level_in in_force (cut_step o step) then [] else cut_step o step ∷ [])
  pub is_in_force : later ≡ (if is_level_in in_force (cut_step o step) then in_force else Some (cut o step.above))

-- where a number is in force, it is none, and neither list has steps
abbrev pub IsInForce : Option ℕ → List StepValue → List StepValue → Type 0
IsInForce None xs ys = ⊤
IsInForce (Some n) xs ys = (n ≡ 0) × (xs ≡ []) × (ys ≡ [])
