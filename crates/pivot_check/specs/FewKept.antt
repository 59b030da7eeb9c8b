-- How many postings are kept, by how many keys there are and how many may ask.
use Rattle.std.specs.List.{AllByRecursion, list_any}
use Rattle.std.specs.Prelude.{◌≡◌, ◌≤◌, ◌+◌, ◌*◌, true, List, length, map}
use Rattle.last_readers.specs.declared.runs.TheConstants.{BEGINS_MAX}
use Rattle.merging_runs.specs.AtRest.{AreAtRest}
use Rattle.model.specs.Map.{Bytes, is_same_key}
use Rattle.pivot_check.specs.Inside.{postings_in, written_run_size}
use Rattle.pivot_check.specs.Kept.{CommittedValue}
use Rattle.pivot_check.specs.KeptShort.{AreKeptShort, numbers_rise}
use Rattle.pivot_check.specs.Postings.{Posting, keys_rise}
use Rattle.pivot_check.specs.Reach.{Reach}
use Rattle.pivot_check.specs.Redundant.{are_spaced}

-- each posting has one of these keys
abbrev pub AreOfKeys : List Bytes → List Posting → Type 0
AreOfKeys keys ps = AllByRecursion (λ p. list_any (is_same_key p.key) keys ≡ true) ps

-- Postings of these keys are kept for whoever may ask: none makes the next redundant. Their numbers are up to the one
-- from which on all may ask.
pub record AreKeptFor (reach : Reach) (keys : List Bytes) (ps : List Posting) : Type 0 where
  pub of_keys : AreOfKeys keys ps
  pub numbers : numbers_rise ps ≡ true
  pub upto : AllByRecursion (λ p. p.number ≤ reach.since) ps
  pub spaced : are_spaced reach ps ≡ true

-- of each key there are two for each number at which someone began at most, and two more
abbrev pub FewKeptLaw : Type 0
FewKeptLaw = (reach : Reach) (keys : List Bytes) (ps : List Posting) → keys_rise ps ≡ true → AreKeptFor reach keys ps
    → length ps ≤ (2 * length reach.begins + 2) * length keys

-- Little is kept of the written keys: each run is kept short for those who may ask, and no number of a run is above one
-- of a later run.
pub record KeepsLittle (v : CommittedValue) : Type 0 where
  pub postings : v.facts.postings ≡ postings_in v.runs
  pub sizes : v.contents.sizes ≡ map written_run_size v.runs
  pub few : length v.facts.reach.begins ≤ BEGINS_MAX
  pub runs : AreKeptShort v.facts.reach v.facts.last v.runs

-- how many postings are kept of these keys once nothing is to be done for the runs
abbrev pub KeepsLittleLaw : Type 0
KeepsLittleLaw = (v : CommittedValue) (keys : List Bytes) → KeepsLittle v → AreOfKeys keys v.facts.postings
    → AreAtRest v.facts.reach.begins v.facts.oldest v.contents.sizes
    → length v.facts.postings ≤ 2 * ((2 * BEGINS_MAX + 2) * length keys) * (2 * BEGINS_MAX + 1)
