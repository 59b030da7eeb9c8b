-- Up to where a watched value is hidden.
use Rattle.std.proofs.Common.{◌≡◌, ℕ, ◌<◌, ◌≤◌, Bool, true, false, max, min, refl, arith, not, ◌||◌}
use Rattle.std.proofs.lemmas.Bool.{both_ways}
use Rattle.std.proofs.lemmas.Bool.Decides.{nat_tests}
use Rattle.std.specs.Prelude.{nat_le, nat_lt, ◌&&◌}

abbrev pub is_hidden : ℕ → ℕ → Bool → ℕ → ℕ → Bool
is_hidden first last shows again n = nat_lt n first || (nat_le last n && (not shows || nat_lt n again))

-- a number that sees the value is below each from which on all see nothing
below_seen : (hides : ℕ → Bool) (start until low high m : ℕ) → start < until → until ≤ high → ((n : ℕ) → start ≤ n → n < until → hides n ≡ false) → low ≤ m
    → ((n : ℕ) → m ≤ n → n < high → hides n ≡ true) → max low until ≤ m
below_seen hides start until low high m lt le sees from hidden = elim (nat_lt m until) as (λ b. nat_lt m until ≡ b → max low until ≤ m) [
  | true ↦ λ t. (let below : m
      < until = grind (arith, nat_tests) in let n =
      max m start in absurd (both_ways (hides n) (sees n (omega arith) (omega arith)) (hidden n (omega arith) (omega arith))))
  | false ↦ λ f. (let above : until ≤ m = grind (arith, nat_tests) in omega arith)
] refl

pub before_seen : (first last again low high m : ℕ) (shows : Bool) → first < min last high → low ≤ m
    → ((n : ℕ) → m ≤ n → n < high → is_hidden first last shows again n ≡ true) → max low (min last high) ≤ m
before_seen first last again low high m shows lt from hidden =
    below_seen (is_hidden first last shows again) first (min last high) low high m lt (omega arith) (λ n le top. grind (arith, nat_tests)) from hidden
