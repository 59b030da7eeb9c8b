-- Runs that hold what is old beside what isn't.
use Rattle.std.proofs.Common.{◌≡◌, ◌≤◌, ◌<◌, ◌+◌, ◌*◌, ℕ, zero, suc, List, [], ◌∷◌, None, Some, length, get_or, map}
use Rattle.std.proofs.Common.{refl, ap, ◌∙◌, arith}
use Rattle.std.proofs.Math.ListN.{set}
use Rattle.std.proofs.lemmas.Bool.{leb-true}
use Rattle.std.proofs.lemmas.Bool.Decides.{nat_tests}
use Rattle.std.proofs.lemmas.List.Elements.{All-from_recursion}
use Rattle.std.proofs.lemmas.List.Quantifiers.{position-Some}
use Rattle.std.specs.List.{position, AllByRecursion}
use Rattle.std.specs.Prelude.{min, nat_le, ◌^◌, All}
use Rattle.merging_runs.proofs.RunSteps.{left_changed}
use Rattle.merging_runs.specs.Contents.{RunContents, partial_upto, size_upto}
use Rattle.merging_runs.specs.RunSizes.{RunSize, left_above}

-- no run is wholly old: each has a number above
above_old : {R : Type 0} (f : R → RunContents) (o : ℕ) (rs : List R) (i : ℕ) (r : R) → size_upto o (map f rs) ≡ 0 → i < length rs → r ≡ get_or rs i r
    → 0 < (f r).size → o < (f r).last
above_old f o [] i r none lt is some = absurd (omega arith)
above_old f o (q ∷ rs) zero r none lt is some = grind (arith, nat_tests, ap f is)
above_old f o (q ∷ rs) (suc i) r none lt is some = above_old f o rs i r (omega arith) (omega arith) is some

-- the run that was found
pub record IsFound (o : ℕ) (rs : ℕ) (i : ℕ) (r : RunContents) : Type 0 where
  pub within : i < rs
  pub from : r.from ≤ o
  pub last : o < r.last

pub found_at : {R : Type 0} (f : R → RunContents) (o : ℕ) (rs looked : List R) (i : ℕ) (r : R) → rs ≡ looked
    → position (λ r. nat_le (f r).from o) looked ≡ Some i
    → size_upto o (map f rs) ≡ 0 → r ≡ get_or rs i r → 0 < (f r).size
    → IsFound o (length rs) i (f r)
found_at {R} f o rs looked i r same found none at some =
    let low = λ (r : R). nat_le (f r).from o in
    let within = position-Some low rs i r (ap (position low) same ∙ found) in
    record { within = within.0; from = leb-true (f r).from o (ap low at ∙ within.1); last = above_old f o rs i r none within.0 at some }

pub partial_at : {R : Type 0} (f : R → RunContents) (o : ℕ) (rs : List R) (i : ℕ) (r : R) → i < length rs → r ≡ get_or rs i r → (f r).from ≤ o → o < (f r).last
    → min (8 * (f r).size) (2 ^ 63) ≤ partial_upto o (map f rs)
partial_at f o [] i r lt at from last = absurd (omega arith)
partial_at f o (q ∷ rs) zero r lt at from last = grind (arith, nat_tests, ap f at)
partial_at f o (q ∷ rs) (suc i) r lt at from last = let rest = partial_at f o rs i r (omega arith) at from last in omega (arith, rest)

-- it was swept
pub partial_swept : {R : Type 0} (f : R → RunContents) (o : ℕ) (rs : List R) (i : ℕ) (was is : R) → i < length rs → was ≡ get_or rs i was → (f was).from ≤ o
    → o < (f was).last → o < (f is).from
    → partial_upto o (map f rs) ≡ partial_upto o (map f (set rs i is)) + min (8 * (f was).size) (2 ^ 63)
partial_swept f o [] i was is lt at from last above = absurd (omega arith)
partial_swept f o (q ∷ rs) zero was is lt at from last above = grind (arith, nat_tests, ap f at)
partial_swept f o (q ∷ rs) (suc i) was is lt at from last above = let rest = partial_swept f o rs i was is (omega arith) at from last above in
    omega (arith, rest)

pub whole_swept : {R : Type 0} (f : R → RunContents) (o : ℕ) (rs : List R) (i : ℕ) (was is : R) → i < length rs → was ≡ get_or rs i was → o < (f was).last
    → (f is).last ≡ (f was).last
    → size_upto o (map f (set rs i is)) ≡ size_upto o (map f rs)
whole_swept f o [] i was is lt at last same = absurd (omega arith)
whole_swept f o (q ∷ rs) zero was is lt at last same = grind (arith, nat_tests, ap f at)
whole_swept f o (q ∷ rs) (suc i) was is lt at last same = let rest = whole_swept f o rs i was is (omega arith) at last same in omega (arith, rest)

pub left_swept : {R : Type 0} (size : R → RunSize) (o : ℕ) (rs : List R) (i : ℕ) (was is : R) → i < length rs → was ≡ get_or rs i was → o < (size was).last
    → (size is).last ≡ (size was).last → (size is).left ≤ (size was).left
    → left_above o (map size (set rs i is)) ≤ left_above o (map size rs)
left_swept size o rs i was is lt at last same fewer = omega (arith, left_changed size o rs i was is lt at last same)

-- none was found
none_by : {R : Type 0} (P : R → Type 0) (f : R → RunContents) (o : ℕ) (rs : List R) → ((r : R) → o < (f r).from → P r)
    → position (λ r. nat_le (f r).from o) rs ≡ None → AllByRecursion P rs × (partial_upto o (map f rs) ≡ 0)
none_by P f o [] later e = (tt, refl)
none_by P f o (q ∷ rs) later e =
    let here : o < (f q).from = grind (arith, nat_tests) in
    let behind : position (λ r. nat_le (f r).from o) rs ≡ None = grind (arith, nat_tests) in
    let rest = none_by P f o rs later behind in
    ((later q here, rest.0), grind (arith, nat_tests, rest.1))

pub none_found : {R : Type 0} (P : R → Type 0) (f : R → RunContents) (o : ℕ) (rs looked : List R) → rs ≡ looked → ((r : R) → o < (f r).from → P r)
    → position (λ r. nat_le (f r).from o) looked ≡ None → All P rs × (partial_upto o (map f rs) ≡ 0)
none_found {R} P f o rs looked same later e =
    let all = none_by P f o rs later (ap (position (λ r. nat_le (f r).from o)) same ∙ e) in
    (All-from_recursion P rs all.0, all.1)
