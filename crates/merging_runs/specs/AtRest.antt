-- How much runs hold together, of which no two beside one another become one.
use Rattle.std.specs.List.{AllByRecursion, list_all}
use Rattle.std.specs.List.Sorted.{IsStrictlyIncreasing}
use Rattle.std.specs.Prelude.{◌≡◌, ◌≤◌, ◌+◌, ◌*◌, ◌^◌, ℕ, true, false, List, [], ◌∷◌, length}
use Rattle.merging_runs.specs.RunSizes.{RunSize, become_one, has_alike, is_finished, lasts_of}

-- how many elements runs hold together that are finished
abbrev pub made_in : List RunSize → ℕ
made_in [] = 0
made_in (r ∷ rs) = r.made + made_in rs

-- Nothing is to be done for these runs: all are finished, and no two beside one another become one, where who may still
-- ask began at these numbers. Their own numbers rise from `oldest` on.
pub record AreAtRest (begins : List ℕ) (oldest : ℕ) (rs : List RunSize) : Type 0 where
  pub finished : list_all is_finished rs ≡ true
  pub rising : IsStrictlyIncreasing (oldest ∷ lasts_of rs)
  pub unlike : has_alike (become_one begins oldest) 0 rs ≡ false

-- how much they hold together, by the most that one holds and how many begins there are
abbrev pub RunsHoldLittleLaw : Type 0
RunsHoldLittleLaw = (begins : List ℕ) (oldest most : ℕ) (rs : List RunSize) → AreAtRest begins oldest rs
    → AllByRecursion (λ r. r.made ≤ most) rs → made_in rs ≤ 2 * most * (2 * length begins + 1)

-- how many they are, where each holds 2^n - 2 elements at most
abbrev pub RunsAreFewLaw : Type 0
RunsAreFewLaw = (begins : List ℕ) (oldest n : ℕ) (rs : List RunSize) → AreAtRest begins oldest rs
    → AllByRecursion (λ r. r.made + 2 ≤ 2 ^ n) rs → length rs ≤ n * (2 * length begins + 1)
