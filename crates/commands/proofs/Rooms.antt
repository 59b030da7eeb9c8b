-- Room for what is made: a file that was made has it.
use Rattle.std.proofs.Common.{◌≡◌, ◌≤◌, ◌<◌, ◌^◌, ℕ, arith, ap, true, Option, None, Some, Result, Ok, Err, subst}
use Rattle.std.specs.Prelude.{◌≢◌, IfErr, IfSome, IfNone, IsErrOf, nat_le}
use Rattle.commands.specs.Compacting.{copy_count}
use Rattle.commands.specs.declared.faults.Fault.{Fault}
use Rattle.commands.specs.declared.faults.Fault.TheVariants.{LogFull, Device}

-- formatting a device of two sectors or more fails by the device alone
pub alone : (r : Result (Unit {0}) Fault) (n : ℕ) → IfErr r (λ e. e ≢ LogFull → e ≡ Device) → (IsErrOf r LogFull → n < 2) → 2 ≤ n → IfErr r (λ e. e ≡ Device)
alone (Ok done) n only full room = tt
alone (Err e) n only full room = only (λ is. let few = full (ap Err is) in absurd (omega (arith, few, room)))

-- what is given where the map's size is known to be this, or to be more than a number can count
pub given : (result : Result ℕ Fault) (old : ℕ) (requested needed : Option ℕ) (size : ℕ) → IfNone needed (result ≡ Err LogFull)
    → IfSome needed (λ n. result ≡ copy_count old requested n) → IfSome needed (λ n. n ≡ size) → IfNone needed (2 ^ 64 ≤ size)
    → result ≡ copy_count old requested size
given result old requested (Some n) size none some is large = subst (λ m. result ≡ copy_count old requested m) is some
given result old None None size none some is large = let few : nat_le (2 ^ 64) size ≡ true = grind (arith, large) in grind (arith, few, none)
given result old (Some a) None size none some is large = let few : nat_le (2 ^ 64) size ≡ true = grind (arith, large) in grind (arith, few, none)

-- a copy that isn't refused has room
pub has_room : (size old : ℕ) (requested : Option ℕ) (count : ℕ) → Ok count ≡ copy_count old requested size → size ≤ count
has_room size old None count is = grind (arith, is)
has_room size old (Some a) count is = grind (arith, is)
