-- What stays true of runs while they are merged, freed and swept.
use Rattle.std.specs.List.{AllByRecursion}
use Rattle.std.specs.Prelude.{◌≡◌, ◌≤◌, ℕ, ⊤, List, [], ◌∷◌}
use Rattle.merging_runs.specs.RunSizes.{RunSize}

-- no number of a run is above one of a later run
abbrev pub AreInOrder : {R : Type 0} → (R → ℕ) → (R → RunSize) → List R → Type 0
AreInOrder from sizes [] = ⊤
AreInOrder from sizes (r ∷ rs) = AllByRecursion (λ s. (sizes r).last ≤ from s) rs × AreInOrder from sizes rs

-- The runs are sound: what a kind of run asks of each run holds, none has a number above `last`, and no number of a run
-- is above one of a later run.
pub record AreSound {R : Type 0} (Holds : R → Type 0) (from : R → ℕ) (sizes : R → RunSize) (last : ℕ)
    (rs : List R) : Type 0 where
  pub each : AllByRecursion Holds rs
  pub upto : AllByRecursion (λ r. (sizes r).last ≤ last) rs
  pub order : AreInOrder from sizes rs

-- sound runs stay sound
abbrev pub StaySound : {R : Type 0} → (R → Type 0) → (R → ℕ) → (R → RunSize) → List R → List R → Type 0
StaySound Holds from sizes old new =
    (last : ℕ) → AreSound Holds from sizes last old → AreSound Holds from sizes last new

-- sound runs stay sound where none has a number above `most`
abbrev pub StaySoundUpto : {R : Type 0} → ℕ → (R → Type 0) → (R → ℕ) → (R → RunSize) → List R → List R → Type 0
StaySoundUpto most Holds from sizes old new =
    (last : ℕ) → last ≤ most → AreSound Holds from sizes last old → AreSound Holds from sizes last new

-- what holds of a run holds of the one in its place, which has the same last number, and none that is lower
pub record ReplacesRun {R : Type 0} (Holds : R → Type 0) (from : R → ℕ) (sizes : R → RunSize)
    (old new : R) : Type 0 where
  pub last : (sizes new).last ≡ (sizes old).last
  pub rises : from old ≤ from new
  pub holds : Holds old → Holds new
