-- How much runs hold together, of which no two beside one another become one.
use Rattle.std.proofs.Common.{◌≡◌, ◌+◌, ◌*◌, ◌≤◌, ◌<◌, ◌^◌, ℕ, zero, suc, length, Bool, true, false, ◌&&◌, ◌||◌, List}
use Rattle.std.proofs.Common.{[]}
use Rattle.std.proofs.Common.{◌∷◌, ap, ◌∙◌, arith, inl, inr, ◌⊎◌, subst}
use Rattle.std.proofs.Math.Nat.{pow-succ'}
use Rattle.std.proofs.lemmas.Bool.{and_parts, and_cases, or_parts, leb-false, lt-ltb}
use Rattle.std.proofs.lemmas.Bool.Decides.{nat_tests}
use Rattle.std.specs.List.{AllByRecursion, list_all}
use Rattle.std.specs.List.Sorted.{IsStrictlyIncreasing}
use Rattle.std.specs.Prelude.{nat_le, nat_lt, max, slice_index, if◌then◌else◌}
use Rattle.merging_runs.specs.AtRest.{RunsAreFewLaw, RunsHoldLittleLaw, made_in}
use Rattle.merging_runs.specs.RunSizes.{RunSize, are_alike, are_outside, become_one, has_alike, is_finished, lasts_of}
use Rattle.merging_runs.specs.declared.merges.TheConstants.{SWEPT_MAX}

-- so much for each begin above that number
abbrev each_above : ℕ → ℕ → List ℕ → ℕ
each_above w n [] = 0
each_above w n (b ∷ bs) = (if nat_lt n b then w else 0) + each_above w n bs

-- no less is above an earlier number
fewer : (w n m : ℕ) (bs : List ℕ) → n ≤ m → each_above w m bs ≤ each_above w n bs
fewer w n m [] h = omega arith
fewer w n m (b ∷ bs) h = grind (arith, nat_tests, fewer w n m bs h)

-- and so much more where a begin is between
one_fewer : (w n m : ℕ) (bs : List ℕ) → n ≤ m → are_outside bs n m ≡ false → each_above w m bs + w ≤ each_above w n bs
one_fewer w n m [] h f = grind arith
one_fewer w n m (b ∷ bs) h f = grind (arith, nat_tests, fewer w n m bs h, one_fewer w n m bs h)

all_above : (w n : ℕ) (bs : List ℕ) → each_above w n bs ≤ w * length bs
all_above w n [] = omega arith
all_above w n (b ∷ bs) = grind (arith, all_above w n bs)

-- the numbers of the runs rise from that one on
abbrev Rise : ℕ → List RunSize → Type 0
Rise n [] = Unit
Rise n (r ∷ rs) = (n < r.last) × Rise r.last rs

next : (k : ℕ) → suc k + 1 ≡ suc (k + 1)
next k = omega arith

rise : (n : ℕ) (rs : List RunSize) → IsStrictlyIncreasing (n ∷ lasts_of rs) → Rise n rs
rise n [] h = tt
rise n (r ∷ rs) h = (
  h 0 (omega arith),
  rise r.last rs (λ k lt. subst (λ i. slice_index (r.last ∷ lasts_of rs) k < slice_index (n ∷ r.last ∷ lasts_of rs) i) (next k) (h (suc k) (omega arith))),
)

-- of finished runs that aren't alike the first is the longer
longer : (above first second short : Bool) → above ≡ true → first ≡ true → second ≡ true → (above && (first && (second && short))) ≡ false → short ≡ false
longer above first second short a f s h = grind (arith, nat_tests)

-- of two runs beside one another that don't become one the first is more than twice as long, or a begin is between
pair : (w : ℕ) (begins : List ℕ) (oldest before low : ℕ) (r s : RunSize) → low ≡ max oldest before → low < r.last → r.last < s.last
    → is_finished r ≡ true → is_finished s ≡ true → become_one begins oldest before r s ≡ false
    → (2 * s.made + 2 ≤ r.made) ⊎ (each_above w s.last begins + w ≤ each_above w low begins)
pair w begins oldest before low r s is first second f g unlike =
    elim (and_cases (are_alike oldest r s) (nat_le (r.made + s.made) SWEPT_MAX || are_outside begins (max oldest before) s.last) unlike) [
      | inl apart ↦
          let short = longer (nat_lt oldest r.last) (is_finished r) (is_finished s) (nat_le r.made (2 * s.made + 1)) (lt-ltb oldest r.last (omega arith)) f g
          apart in
          inl (let more = leb-false r.made (2 * s.made + 1) short in omega arith)
      | inr parted ↦
          let between = (or_parts (nat_le (r.made + s.made) SWEPT_MAX) (are_outside begins (max oldest before) s.last) parted).1 in
          inr (one_fewer w low s.last begins (omega arith) (ap (λ n. are_outside begins n s.last) is ∙ between))
    ]

held : (begins : List ℕ) (oldest before low most : ℕ) (r : RunSize) (rs : List RunSize) → low ≡ max oldest before → Rise low (r ∷ rs)
    → list_all is_finished (r ∷ rs) ≡ true → has_alike (become_one begins oldest) before (r ∷ rs) ≡ false → AllByRecursion (λ r. r.made ≤ most) (r ∷ rs)
    → made_in (r ∷ rs) ≤ 2 * r.made + (each_above (2 * most) low begins + each_above (2 * most) r.last begins)
held begins oldest before low most r [] is up done unlike within = omega arith
held begins oldest before low most r (s ∷ rs) is up done unlike within =
    let w = 2 * most in
    let ended = and_parts (is_finished r) (list_all is_finished (s ∷ rs)) done in
    let following = and_parts (is_finished s) (list_all is_finished rs) ended.1 in
    let none = or_parts (become_one begins oldest before r s) (has_alike (become_one begins oldest) r.last (s ∷ rs)) unlike in
    let rest = held begins oldest r.last r.last most s rs (omega arith) up.1 ended.1 none.1 within.1 in
    let less = fewer w low s.last begins (omega arith) in
    elim (pair w begins oldest before low r s is up.0 up.1.0 ended.0 following.0 none.0) [
      | inl short ↦ omega (arith, rest, less, short)
      | inr parted ↦ omega (arith, rest, parted, within.1.0)
    ]

pub runs_hold_little : RunsHoldLittleLaw
runs_hold_little begins oldest most [] rests within = omega arith
runs_hold_little begins oldest most (r ∷ rs) rests within =
    let w = 2 * most in
    let up = rise oldest (r ∷ rs) rests.rising in
    let all = held begins oldest 0 oldest most r rs (omega arith) up rests.finished rests.unlike within in
    let first = all_above w oldest begins in
    let second = all_above w r.last begins in
    grind (arith, all, first, second, within.0)

few : (begins : List ℕ) (oldest before low n k : ℕ) (r : RunSize) (rs : List RunSize) → low ≡ max oldest before → Rise low (r ∷ rs)
    → list_all is_finished (r ∷ rs) ≡ true → has_alike (become_one begins oldest) before (r ∷ rs) ≡ false
    → AllByRecursion (λ r. r.made + 2 ≤ 2 ^ n) (r ∷ rs) → r.made + 2 ≤ 2 ^ k
    → length (r ∷ rs) ≤ k + (each_above n low begins + each_above n r.last begins)
few begins oldest before low n zero r rs is up done unlike within short = absurd (omega arith)
few begins oldest before low n (suc k) r [] is up done unlike within short = omega arith
few begins oldest before low n (suc k) r (s ∷ rs) is up done unlike within short =
    let ended = and_parts (is_finished r) (list_all is_finished (s ∷ rs)) done in
    let following = and_parts (is_finished s) (list_all is_finished rs) ended.1 in
    let none = or_parts (become_one begins oldest before r s) (has_alike (become_one begins oldest) r.last (s ∷ rs)) unlike in
    let less = fewer n low s.last begins (omega arith) in
    let twice = pow-succ' 2 k in
    elim (pair n begins oldest before low r s is up.0 up.1.0 ended.0 following.0 none.0) [
      | inl shorter ↦
          let rest = few begins oldest r.last r.last n k s rs (omega arith) up.1 ended.1 none.1 within.1 (omega arith) in
          omega (arith, rest, less)
      | inr parted ↦
          let rest = few begins oldest r.last r.last n n s rs (omega arith) up.1 ended.1 none.1 within.1 within.1.0 in
          omega (arith, rest, parted)
    ]

pub runs_are_few : RunsAreFewLaw
runs_are_few begins oldest n [] rests within = omega arith
runs_are_few begins oldest n (r ∷ rs) rests within =
    let up = rise oldest (r ∷ rs) rests.rising in
    let all = few begins oldest 0 oldest n n r rs (omega arith) up rests.finished rests.unlike within within.0 in
    let first = all_above n oldest begins in
    let second = all_above n r.last begins in
    grind (arith, all, first, second)
