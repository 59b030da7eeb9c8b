-- Who may still ask of what is kept of committed transactions, by the numbers with which they began.
use Rattle.std.specs.List.{list_any}
use Rattle.std.specs.Prelude.{ℕ, Bool, ◌||◌, ◌==◌, nat_le, List}

-- who may still ask: one who began at one of these numbers, or at that one or later
pub record Reach : Type 0 where
  pub begins : List ℕ
  pub since : ℕ

-- whether one who began at that number may still ask
abbrev pub may_ask : Reach → ℕ → Bool
may_ask reach b = nat_le reach.since b || list_any (λ n. n == b) reach.begins
