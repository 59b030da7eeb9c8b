-- Input that is read and dropped.
use Rattle.std.specs.Prelude.{◌≡◌, ◌⊎◌, ℕ, ◌+◌, ◌≤◌, ◌<◌, ◌-◌, length, List, ◌++◌, [], ◌∷◌, drop}
use Rattle.stream_driver.specs.Traffic.{Traffic, one_more}
use Rattle.event_loop.specs.declared.lingering.Dropped.{Dropped}
use Rattle.event_loop.specs.declared.lingering.Dropped.TheVariants.{Blocked, All, Over}

-- the count rose, or could not
abbrev pub CountRose : ℕ → ℕ → Type 0
CountRose old new = one_more old ≤ new

-- so many bytes were read, `most` at most
abbrev pub DropsUpTo : Dropped → ℕ → ℕ → ℕ → Type 0
DropsUpTo (Blocked n) most before after = after ≡ before + n
DropsUpTo All most before after = after ≡ before + most
DropsUpTo Over most before after = after ≤ before + most

-- why no more was dropped
abbrev pub WhyDropped : Dropped → ℕ → Traffic → Traffic → Type 0
WhyDropped (Blocked n) most before after = (n < most) × CountRose before.read_blocked after.read_blocked
WhyDropped All most before after = Unit {0}
WhyDropped Over most before after = CountRose before.read_failed after.read_failed
    ⊎ CountRose before.read_ended after.read_ended

-- what was dropped is taken from what may still be dropped
abbrev pub left_after : Dropped → ℕ → ℕ → ℕ
left_after (Blocked n) most left = left - n
left_after All most left = left - most
left_after Over most left = 0

-- with one more at the end, and without the first where there are already so many
abbrev pub newest : {X : Type 0} → ℕ → List X → X → List X
newest most xs x = drop (length xs + 1 - most) (xs ++ x ∷ [])
