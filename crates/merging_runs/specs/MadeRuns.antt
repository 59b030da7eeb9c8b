-- What moves make of runs.
use Rattle.std.specs.List.{AllZip, slice_get}
use Rattle.std.specs.Prelude.{◌≡◌, ◌≤◌, ◌-◌, ◌⊎◌, ℕ, List, Some, slice_set}
use Rattle.merging_runs.specs.RunSizes.{RunSize, released_of}

-- by such moves one run was made of another; by none it stays
pub data IsMade {R : Type 0} (Moves : R → R → Type 0) (old : R) : R → Type 0 where
  Unmoved : IsMade Moves old old
  Moved : (mid new : R) → IsMade Moves old mid → Moves mid new → IsMade Moves old new

-- so one was made of each of the runs
abbrev pub AreMade : {R : Type 0} → (R → R → Type 0) → List R → List R → Type 0
AreMade {R} Moves old new = AllZip (λ was is. IsMade Moves was is) old new

-- so a run was made of another, and memory was released where nothing was left to move
pub record IsMovedOn {R : Type 0} (Moves : R → R → Type 0) (sizes : R → RunSize) (o : ℕ) (was is : R) : Type 0 where
  pub made : IsMade Moves was is
  pub released : (sizes is).room ≤ (sizes was).room - released_of o (sizes was)

-- the run at a place became such a one, if there is one; all others are as they were
abbrev pub ChangesOne : {R : Type 0} → (R → R → Type 0) → List R → ℕ → List R → Type 0
ChangesOne {R} Becomes old place new =
    ((new ≡ old) × ((was : R) → slice_get old place ≡ Some was → Becomes was was))
    ⊎ ((was is : R) × (slice_get old place ≡ Some was) × Becomes was is × (new ≡ slice_set old place is))
