-- Two step functions made into one, from their ends.
use Rattle.std.specs.Prelude.{◌≡◌, ◌<◌, ◌≤◌, ◌+◌, ℕ, max, true, List, length, [], ◌∷◌, ◌++◌, IsTrue, if◌then◌else◌}
use Rattle.std.specs.declared.cmp.Ordering.TheVariants.{Less}
use Rattle.model.specs.Map.{Bytes, key_cmp}
use Rattle.last_readers.specs.Steps.{StepValue, cut, is_level, number_at, merged_at, are_from, end_of, steps_from}
use Rattle.last_readers.specs.Steps.{steps_rise, are_under}

-- the number that is kept of two: the greater, where it is above o
abbrev pub later : ℕ → ℕ → ℕ → ℕ
later o a b = cut o (max a b)

-- xs has steps, and the last has a key above all keys of ys
pub record EndsOver (xs ys : List StepValue) : Type 0 where
  pub some : 0 < length xs
  pub over : (init : List StepValue) (w : StepValue) → xs ≡ init ++ w ∷ [] → are_under w.key ys ≡ true

-- xs and ys have steps, and their last ones have one key
pub record EndsEqual (xs ys : List StepValue) : Type 0 where
  pub first : 0 < length xs
  pub second : 0 < length ys
  pub same : (init rest : List StepValue) (w v : StepValue) → xs ≡ init ++ w ∷ [] → ys ≡ rest ++ v ∷ [] → w.key ≡ v.key

-- ys are the steps of xs below the key, where xs has none above it
pub record IsParted (xs : List StepValue) (k : Bytes) (ys : List StepValue) : Type 0 where
  pub below : (j : Bytes) → key_cmp j k ≡ Less → number_at xs j ≡ number_at ys j
  pub above : (j : Bytes) → key_cmp k j ≡ Less → number_at xs j ≡ end_of xs
  pub under : are_under k ys ≡ true
  pub from : (n : ℕ) → steps_from n xs ≡ true → steps_from n ys ≡ true
  pub rising : (ts : List StepValue) → steps_rise (xs ++ ts) ≡ true → steps_rise (ys ++ ts) ≡ true

-- the greatest key of xs and ys was taken off both: m is its step in both as one
pub record IsJoined (o : ℕ) (xs xs' ys ys' : List StepValue) (m : StepValue) : Type 0 where
  pub first : IsParted xs m.key xs'
  pub second : IsParted ys m.key ys'
  pub at : m.at ≡ later o (number_at xs m.key) (number_at ys m.key)
  pub above : m.above ≡ later o (end_of xs) (end_of ys)
  pub rising : (ts : List StepValue) → steps_rise (xs ++ ts) ≡ true → steps_rise (ys ++ ts) ≡ true
      → steps_rise (m ∷ ts) ≡ true

-- m in front, unless it says no more than that all numbers from it on are those below it
abbrev pub with_step : StepValue → ℕ → List StepValue → List StepValue
with_step m below ts = if is_level below m then ts else m ∷ ts

-- so a step was put in front of what was made, where xs and ys are left; its numbers up to o count as none
abbrev pub IsStepMade : ℕ → List StepValue → List StepValue → List StepValue → List StepValue → Type 0
IsStepMade o xs ys ts ts' = (m : StepValue) × (m.at ≡ cut o m.at) × (m.above ≡ cut o m.above)
    × (ts' ≡ with_step m (later o (end_of xs) (end_of ys)) ts)

-- the numbers of the new lists are none or from n on, where those of the old ones are
abbrev pub StayFrom : List StepValue → List StepValue → List StepValue → List StepValue → List StepValue
    → List StepValue → Type 0
StayFrom xs ys ts xs' ys' ts' = (n : ℕ) → are_from n xs' ys' ts' ≡ true → are_from n xs ys ts ≡ true

-- at each key the number of the lists that are being merged stays, where those up to o count as none
abbrev pub StayMerged : ℕ → List StepValue → List StepValue → List StepValue → List StepValue → List StepValue
    → List StepValue → Type 0
StayMerged o xs ys ts xs' ys' ts' = (k : Bytes) → cut o (merged_at xs ys ts k) ≡ cut o (merged_at xs' ys' ts' k)

-- so the greatest key of xs' and ys' has moved in front of ts'
pub record MovesGreatest (o : ℕ) (xs ys ts xs' ys' ts' : List StepValue) : Type 0 where
  pub same : StayMerged o xs ys ts xs' ys' ts'
  pub made : IsStepMade o xs ys ts' ts
  pub from : StayFrom xs ys ts xs' ys' ts'

-- the steps of either list rise up to those that are made
pub record RiseBefore (xs ys ts : List StepValue) : Type 0 where
  pub first : IsTrue (steps_rise (xs ++ ts))
  pub second : IsTrue (steps_rise (ys ++ ts))

-- one or two of so many steps were taken, and where some were made there is at most one more
pub record MakesOneStep (before after old new : ℕ) : Type 0 where
  pub fewer : after < before
  pub two : before ≤ after + 2
  pub made : new ≤ old + 1
