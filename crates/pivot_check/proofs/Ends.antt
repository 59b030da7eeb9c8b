-- Of two tests of records the ends decide: the first record that passes the one, and the last that passes the other.
use Rattle.std.proofs.Common.{◌≡◌, ◌<◌, ℕ, Bool, true, ◌&&◌, List, [], ◌∷◌, Option, Some, refl, ap, ◌∙◌, arith}
use Rattle.std.proofs.lemmas.Bool.Decides.{nat_tests}
use Rattle.std.specs.List.{list_any, AllByRecursion}
use Rattle.std.specs.Option.{option_map}
use Rattle.std.specs.Prelude.{nat_le, find}
use Rattle.model.proofs.Members.{IsRising}
use Rattle.model.proofs.Pivots.{any_alike}
use Rattle.model.specs.History.{Record}
use Rattle.pivot_check.specs.Kept.{last_that, are_in_order}

abbrev pub number_of : Option Record → Option ℕ
number_of o = option_map (λ (r : Record). r.commit) o

-- a number that one of them does not pass is below it
passed_low : (m n : ℕ) (q : Record → Bool) (rs : List Record) → AllByRecursion (λ s. m < s.commit) rs → list_any (λ y. q y && nat_le y.commit n) rs ≡ true
    → m < n
passed_low m n q [] above t = cc
passed_low m n q (r ∷ rs) above t = let low = above.0 in grind (arith, nat_tests, passed_low m n q rs above.1)

-- some that passes has a number up to n: the first has
by_first : (n : ℕ) (q : Record → Bool) (rs : List Record) → IsRising rs
    → list_any (λ y. q y && nat_le y.commit n) rs ≡ are_in_order (number_of (find q rs)) (Some n)
by_first n q [] rise = refl
by_first n q (r ∷ rs) rise = grind (arith, nat_tests, passed_low r.commit n q rs rise.0, by_first n q rs rise.1)

last_above : (n : ℕ) (p : Record → Bool) (rs : List Record) → AllByRecursion (λ s. n < s.commit) rs → (m : ℕ) → number_of (last_that p rs) ≡ Some m → n < m
last_above n p [] above m is = cc
last_above n p (r ∷ rs) above m is = let low = above.0 in grind (arith, last_above n p rs above.1 m)

-- some that passes has a number from that one on: the last has
by_last : (o : Option ℕ) (p : Record → Bool) (rs : List Record) → IsRising rs
    → list_any (λ x. p x && are_in_order o (Some x.commit)) rs ≡ are_in_order o (number_of (last_that p rs))
by_last o p [] rise = grind arith
by_last o p (r ∷ rs) rise = grind (arith, nat_tests, last_above r.commit p rs rise.0, by_last o p rs rise.1)

-- some x passes p, and some y that passes q committed no later
pub by_ends : (p q : Record → Bool) (rs : List Record) → IsRising rs → list_any (λ x. p x && list_any (λ y. q y && nat_le y.commit x.commit) rs) rs
    ≡ are_in_order (number_of (find q rs)) (number_of (last_that p rs))
by_ends p q rs rise =
    any_alike (λ x. p x && list_any (λ y. q y && nat_le y.commit x.commit) rs) (λ x. p x
    && are_in_order (number_of (find q rs)) (Some x.commit)) (λ x. ap (λ b. p x && b) (by_first x.commit q rs rise)) rs
    ∙ by_last (number_of (find q rs)) p rs rise
