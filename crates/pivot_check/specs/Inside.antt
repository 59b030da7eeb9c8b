-- What a `Committed` holds as contracts see it.
use Rattle.std.specs.Prelude.{◌≡◌, ◌≤◌, ℕ, ◌+◌, ◌-◌, ◌^◌, ◌&&◌, Bool, length, min, List, [], ◌∷◌, ◌++◌, Option}
use Rattle.std.specs.Prelude.{option_map}
use Rattle.std.specs.Vec.{vec_capacity, vec_len}
use Rattle.model.specs.Map.{Bytes}
use Rattle.merging_runs.specs.RunSizes.{RunSize}
use Rattle.pivot_check.specs.Parts.{left, remaining_in}
use Rattle.pivot_check.specs.Postings.{Posting, are_later}
use Rattle.pivot_check.specs.declared.part.Part.{Part}
use Rattle.pivot_check.specs.declared.ready.Ready.{Ready}
use Rattle.pivot_check.specs.declared.run.WrittenRun.{WrittenRun}

-- the postings of a run
abbrev pub in_run : WrittenRun → List Posting
in_run r = remaining_in r.made r.first r.second

-- the postings of all runs, one run after another
abbrev pub postings_in : List WrittenRun → List Posting
postings_in [] = []
postings_in (r ∷ rs) = in_run r ++ postings_in rs

abbrev pub ready_keys : Option Ready → Option (List Bytes)
ready_keys ready = option_map (λ r. r.keys.items) ready

-- how many postings a run holds, also those that were taken
abbrev pub postings_count : WrittenRun → ℕ
postings_count r = vec_len r.first.written + vec_len r.second.written + vec_len r.made.written

-- a number that none of its numbers is below, by the bounds of its parts
abbrev pub number_bound : WrittenRun → ℕ
number_bound r = min r.made.bound.number (min r.first.bound.number r.second.bound.number)

-- whether all that it holds, also what was taken, has a number above this one
abbrev pub is_run_later : ℕ → WrittenRun → Bool
is_run_later o r = are_later o r.made.written.items
    && (are_later o r.first.written.items && are_later o r.second.written.items)

-- free places for so many postings, with a bound of none
pub record AreFreePlaces (n : ℕ) (places : Part) : Type 0 where
  pub none : length places.written.items ≡ 0
  pub room : n ≤ vec_capacity places.written
  pub bound : 2 ^ 64 - 1 ≤ places.bound.number

-- how far a run is merged, and how much memory it is still to release
abbrev pub written_run_size : WrittenRun → RunSize
written_run_size r = record {
  last = r.last;
  left = left r.first + left r.second;
  made = left r.made;
  room = r.room;
}
