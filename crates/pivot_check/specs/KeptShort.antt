-- What keeps a run of written keys short: of each key it has few postings.
use Rattle.std.specs.Prelude.{◌≡◌, ◌≤◌, ◌+◌, ◌⊎◌, ℕ, Bool, true, not, ◌&&◌, ◌||◌, nat_le, List, [], ◌∷◌, ◌++◌, length}
use Rattle.last_readers.specs.declared.runs.TheConstants.{BEGINS_MAX}
use Rattle.merging_runs.specs.KeptRuns.{AreSound}
use Rattle.model.specs.Map.{is_same_key}
use Rattle.pivot_check.specs.Inside.{in_run, number_bound, written_run_size}
use Rattle.pivot_check.specs.Parts.{left, remaining}
use Rattle.pivot_check.specs.Postings.{Posting, are_upto, keys_come_once, postings_from}
use Rattle.pivot_check.specs.Reach.{Reach}
use Rattle.pivot_check.specs.Redundant.{IsWithin, are_spaced}
use Rattle.pivot_check.specs.declared.run.WrittenRun.{WrittenRun}

-- whether the numbers of one key don't fall, where its postings stand beside one another
abbrev pub numbers_rise : List Posting → Bool
numbers_rise [] = true
numbers_rise (p ∷ []) = true
numbers_rise (p ∷ q ∷ ps) = (not (is_same_key p.key q.key) || nat_le p.number q.number) && numbers_rise (q ∷ ps)

-- The numbers of one key don't fall from what was made to what is left of either of two, and none that is left of the
-- first is above one that is left of the second.
pub record NumbersRise (made first second : List Posting) : Type 0 where
  pub first_rises : numbers_rise (made ++ first) ≡ true
  pub second_rises : numbers_rise (made ++ second) ≡ true
  pub middle : ℕ
  pub upto : are_upto middle first ≡ true
  pub from : postings_from middle second ≡ true

-- postings of the commit with that number: each key comes once
pub record AreOfCommit (n : ℕ) (ps : List Posting) : Type 0 where
  pub once : keys_come_once ps ≡ true
  pub upto : are_upto n ps ≡ true
  pub from : postings_from n ps ≡ true

-- a run is of one commit: it isn't being made of two, and each key comes once
pub record IsOfOneCommit (r : WrittenRun) : Type 0 where
  pub rest : left r.first + left r.second ≡ 0
  pub once : keys_come_once (remaining r.made) ≡ true

-- A run is or was merged for some who might ask then, at BEGINS_MAX numbers at most, among whom are all who may now:
-- none of what was made is redundant for them behind the one before it. Its numbers are up to the one from which on all
-- might ask.
pub record WasMergedFor (reach : Reach) (r : WrittenRun) : Type 0 where
  pub were : Reach
  pub few : length were.begins ≤ BEGINS_MAX
  pub within : IsWithin were reach
  pub upto : are_upto were.since (in_run r) ≡ true
  pub spaced : are_spaced were (remaining r.made) ≡ true

-- a run is kept short for those who may ask
pub record IsKeptShort (reach : Reach) (r : WrittenRun) : Type 0 where
  pub numbers : NumbersRise (remaining r.made) (remaining r.first) (remaining r.second)
  pub kept : IsOfOneCommit r ⊎ WasMergedFor reach r

-- Each of the runs is. None has a number above `last`, and no number of one is above those of a later one.
abbrev pub AreKeptShort : Reach → ℕ → List WrittenRun → Type 0
AreKeptShort reach last rs = AreSound (IsKeptShort reach) number_bound written_run_size last rs
