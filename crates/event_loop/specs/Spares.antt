-- When a block is asked for at the end of a turn, and of which size.
use Rattle.std.specs.Prelude.{ℕ, Bool, ◌||◌, ◌==◌, ◌+◌, nat_lt, cond}
use Rattle.event_loop.specs.declared.spare.TheConstants.{SPARE_MAX, SPARE_MIN, SPARE_STEP}

-- the size behind this one: the next of three, round
abbrev pub size_behind : ℕ → ℕ
size_behind size = cond (nat_lt size SPARE_MAX) (size + SPARE_STEP) SPARE_MIN

-- where garbage is left, or no more turns may pass
abbrev pub asks_again : Bool → ℕ → Bool
asks_again garbage_left rests = garbage_left || (rests == 0)
