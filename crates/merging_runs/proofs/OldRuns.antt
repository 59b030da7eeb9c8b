-- How much is to be freed of runs.
use Rattle.std.proofs.Common.{◌≡◌, ◌≤◌, ◌<◌, ◌+◌, ℕ, zero, suc, List, [], ◌∷◌, None, Some, length, get_or, map, refl}
use Rattle.std.proofs.Common.{ap, ◌∙◌, arith}
use Rattle.std.proofs.lemmas.Bool.{leb-true}
use Rattle.std.proofs.lemmas.Bool.Decides.{nat_tests}
use Rattle.std.proofs.lemmas.List.Quantifiers.{position-Some}
use Rattle.std.specs.List.{remove, position}
use Rattle.std.specs.Prelude.{nat_lt, nat_le, is_some}
use Rattle.merging_runs.specs.Contents.{RunContents, partial_upto, size_upto}
use Rattle.merging_runs.specs.RunSizes.{RunSize}

-- the run that was found
pub old_at : {R : Type 0} (size : R → RunSize) (o : ℕ) (rs looked : List R) (i : ℕ) (r : R) → rs ≡ looked
    → position (λ r. nat_le (size r).last o) looked ≡ Some i → r ≡ get_or rs i r → (i < length rs) × ((size r).last ≤ o)
old_at {R} size o rs looked i r same found at =
    let old = λ (r : R). nat_le (size r).last o in
    let within = position-Some old rs i r (ap (position old) same ∙ found) in
    (within.0, leb-true (size r).last o (ap old at ∙ within.1))

-- a run that is old, and the others
pub part_of : {R : Type 0} (f : R → RunContents) (o : ℕ) (rs : List R) (i : ℕ) (r : R) → i < length rs → r ≡ get_or rs i r → (f r).last ≤ o
    → size_upto o (map f rs) ≡ (f r).size + size_upto o (map f (remove rs i))
part_of f o [] i r lt is le = absurd (omega arith)
part_of f o (q ∷ rs) zero r lt is le = grind (arith, nat_tests, ap f is)
part_of f o (q ∷ rs) (suc i) r lt is le = let rest = part_of f o rs i r (omega arith) is le in omega (arith, rest)

-- an old run is not one with others above
pub partial_without : {R : Type 0} (f : R → RunContents) (o : ℕ) (rs : List R) (i : ℕ) (r : R) → i < length rs → r ≡ get_or rs i r → (f r).last ≤ o
    → partial_upto o (map f (remove rs i)) ≡ partial_upto o (map f rs)
partial_without f o [] i r lt is le = absurd (omega arith)
partial_without f o (q ∷ rs) zero r lt is le = grind (arith, nat_tests, ap f is)
partial_without f o (q ∷ rs) (suc i) r lt is le = let rest = partial_without f o rs i r (omega arith) is le in omega (arith, rest)

-- no run is old
none : {R : Type 0} (f : R → RunContents) (o : ℕ) (rs : List R) → position (λ r. nat_le (f r).last o) rs ≡ None → size_upto o (map f rs) ≡ 0
none f o [] e = refl
none f o (q ∷ rs) e = grind (arith, nat_tests, none f o rs)

pub none_old : {R : Type 0} (f : R → RunContents) (o : ℕ) (rs looked : List R) → rs ≡ looked → position (λ r. nat_le (f r).last o) looked ≡ None
    → size_upto o (map f rs) ≡ 0
none_old f o rs looked same e = none f o rs (ap (position (λ r. nat_le (f r).last o)) same ∙ e)

-- is one?
pub is_one : {R : Type 0} (f : R → RunContents) (o : ℕ) (rs : List R) → ((r : R) → 0 < (f r).size)
    → is_some (position (λ r. nat_le (f r).last o) rs) ≡ nat_lt 0 (size_upto o (map f rs))
is_one f o [] some = refl
is_one f o (q ∷ rs) some = grind (arith, nat_tests, some q, is_one f o rs some)
