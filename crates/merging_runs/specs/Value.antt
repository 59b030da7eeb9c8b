-- What `Runs` holds as contracts see it.
use Rattle.std.specs.Prelude.{◌≡◌, ◌≤◌, ◌<◌, ℕ, ◌+◌, ◌^◌, Bool, nat_le, if◌then◌else◌, List, map, Option, Some, None}
use Rattle.merging_runs.specs.Contents.{Contents, RunContents, IsSameBut, partial_upto, size_upto}
use Rattle.merging_runs.specs.RunSizes.{RunSize, left_above}

-- the runs, how many more fit without memory, how far each is merged, how much they hold, and how often memory for a
-- merge was refused
pub record RunsValue (R : Type 0) : Type 0 where
  pub runs : List R
  pub places : ℕ
  pub sizes : List RunSize
  pub contents : Contents
  pub refused : ℕ

-- nothing has changed but how much there is still to free of the run that was taken out
pub record OnlyFrees {R : Type 0} (old new : RunsValue R) : Type 0 where
  pub runs : new.runs ≡ old.runs
  pub contents : IsSameBut old.contents new.contents
  pub sizes : new.sizes ≡ old.sizes
  pub refused : new.refused ≡ old.refused

-- how much there is to free of a run of so many elements: one more
abbrev pub contents_of : {R : Type 0} → (R → ℕ) → (R → RunSize) → (R → ℕ) → R → RunContents
contents_of from sizes elements r = record { from = from r; last = (sizes r).last; size = elements r + 1 }

-- the same, if there is one
abbrev pub size_of : {R : Type 0} → (R → ℕ) → Option R → ℕ
size_of elements None = 0
size_of elements (Some r) = elements r + 1

-- how much there is still to free of a run that was taken out
abbrev pub taken_of : {S : Type 0} → (S → ℕ) → Option S → ℕ
taken_of left None = 0
taken_of left (Some s) = left s + 1

-- how much there is to free of the runs that have no number above that one
abbrev pub size_old : {R : Type 0} → (R → ℕ) → (R → RunSize) → (R → ℕ) → ℕ → List R → ℕ
size_old from sizes elements oldest rs = size_upto oldest (map (contents_of from sizes elements) rs)

-- how much work it is to look at the runs that may have numbers up to that one, and others above it
abbrev pub size_partial : {R : Type 0} → (R → ℕ) → (R → RunSize) → (R → ℕ) → ℕ → List R → ℕ
size_partial from sizes elements oldest rs = partial_upto oldest (map (contents_of from sizes elements) rs)

-- runs of which elements with numbers up to that one were dropped: they answer as they did, none of them is to be freed
-- as a whole, and no more is to be moved
pub record AreSwept {R : Type 0} (Agree : (ℕ → Bool) → List R → List R → Type 0) (from : R → ℕ) (sizes : R
    → RunSize) (elements : R → ℕ) (oldest : ℕ) (old new : List R) : Type 0 where
  pub agree : Agree (nat_le oldest) new old
  pub whole : size_old from sizes elements oldest new ≡ 0
  pub left : left_above oldest (map sizes new) ≤ left_above oldest (map sizes old)

-- Of the work of looking at runs, one of them is so much, and was done where that is no more than `most`; or there is
-- none.
abbrev pub LooksAt : Option ℕ → ℕ → ℕ → ℕ → Type 0
LooksAt None most was is = (was ≡ 0) × (is ≡ 0)
LooksAt (Some n) most was is = (0 < n) × (n ≤ 2 ^ 63) × (n ≤ was) × (was ≡ is + (if nat_le n most then n else 0))

-- So much of it was done as `most` is enough for: what is left of that isn't enough for another run, or there is no
-- other.
abbrev pub LooksFor : Option ℕ → ℕ → ℕ → ℕ → Type 0
LooksFor None most was is = (was ≤ most) × (is ≡ 0)
LooksFor (Some n) most was is = (n < is) × (was + n ≡ is + most)
