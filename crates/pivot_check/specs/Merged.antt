-- How runs of written keys are merged, some postings at a time.
use Rattle.std.specs.Prelude.{◌≡◌, ℕ, List, length}
use Rattle.merging_runs.specs.RunSizes.{RunSize, IsMoved, IsTried, become_one, moves_for, with_run}
use Rattle.snapshot.specs.View.{View}
use Rattle.pivot_check.specs.Kept.{CommittedValue}

-- two runs beside one another that are to become one are being made one, or memory for that was refused, which is
-- counted, or there are no such two
abbrev pub IsTriedIn : CommittedValue → CommittedValue → Type 0
IsTriedIn old new =
    IsTried (become_one old.facts.reach.begins old.facts.oldest) old.contents.sizes new.contents.sizes
    old.contents.refused new.contents.refused

-- The merges that are under way in runs of these sizes were moved on, for so many written keys, one posting a move, and
-- memory was released where nothing was left to move. No merge was begun, so no memory for one was refused.
abbrev pub AreMoved : ℕ → List RunSize → CommittedValue → CommittedValue → Type 0
AreMoved count sizes old new =
    IsMoved 1 new.facts.oldest (moves_for count) sizes new.contents.sizes
    × (new.contents.refused ≡ old.contents.refused)

-- so it is once the written keys of the transaction have come with number n as a run
abbrev pub AreMovedWith : View → ℕ → CommittedValue → CommittedValue → Type 0
AreMovedWith t n old new = let count = length t.writes in AreMoved count (with_run n count old.contents.sizes) old new

-- the written keys of the transaction have come with number n as a run; no memory for a merge was refused
pub record AddsWrittenRun (t : View) (n : ℕ) (old new : CommittedValue) : Type 0 where
  pub sizes : new.contents.sizes ≡ with_run n (length t.writes) old.contents.sizes
  pub refused : new.contents.refused ≡ old.contents.refused
