-- The number whose decimal some digits are.
use Rattle.model.specs.declared.refusals.Refusal.TheVariants as refusals
use Rattle.std.proofs.Common.{◌≡◌, ℕ, zero, suc, ◌<◌, ◌≤◌, ◌^◌, List, Some, None, refl, sym, ap, ◌∙◌, arith}
use Rattle.std.proofs.lemmas.Bool.{cases_Bool}
use Rattle.std.proofs.lemmas.Fmt.{decimal_injective}
use Rattle.std.proofs.lemmas.Grind.{common_steps}
use Rattle.std.proofs.lemmas.Slice.Eq.{bytes_eq-Decides}
use Rattle.std.specs.Fmt.{decimal}
use Rattle.std.specs.Prelude.{Result, Ok, Err}
use Rattle.model.specs.CommandTable.{number_up_to, or_limit, limit_in}
use Rattle.model.specs.declared.refusals.Refusal.{Refusal}

number_found : (most n : ℕ) (digits : List ℕ) → most < 2 ^ 64 → 1 ≤ n → n ≤ most → digits ≡ decimal n → number_up_to most digits ≡ Some n
unfolding number_up_to
number_found zero n digits small some le e = absurd (omega arith)
number_found (suc most) n digits small some le e =
    grind (arith, common_steps, cases_Bool, bytes_eq-Decides, decimal_injective, number_found most n digits (omega arith) some)

number_absent : (most : ℕ) (digits : List ℕ) → ((n : ℕ) → 1 ≤ n → n ≤ most → digits ≡ decimal n → ⊥) → number_up_to most digits ≡ None
unfolding number_up_to
number_absent zero digits none = refl
number_absent (suc most) digits none =
    grind (arith, common_steps, cases_Bool, bytes_eq-Decides, number_absent most digits (λ n some le e. none n some (omega arith) e))

abbrev given : ℕ → Result ℕ Refusal
given n = Ok n

abbrev refused : Result ℕ Refusal
refused = Err refusals.BadLimit

pub limit_found : (n : ℕ) (digits : List ℕ) → 1 ≤ n → n ≤ 128 → digits ≡ decimal n → limit_in digits ≡ given n
limit_found n digits some le e = ap or_limit (number_found 128 n digits (omega arith) some le e)

pub limit_absent : (digits : List ℕ) → ((n : ℕ) → 1 ≤ n → n ≤ 128 → digits ≡ decimal n → ⊥) → limit_in digits ≡ refused
limit_absent digits none = ap or_limit (number_absent 128 digits none)

-- where the digits are those of 0, they aren't those of another number
pub zero_alone : (digits : List ℕ) → digits ≡ decimal 0 → (n : ℕ) → 1 ≤ n → n ≤ 128 → digits ≡ decimal n → ⊥
zero_alone digits e n some le f = let is : 0 ≡ n = decimal_injective 0 n (omega arith) (omega arith) (sym e ∙ f) in omega arith
