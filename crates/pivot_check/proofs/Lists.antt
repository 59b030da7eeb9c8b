-- Tests of lists.
use Rattle.std.proofs.Common.{◌≡◌, ℕ, ◌<◌, Bool, ◌||◌, List, [], ◌∷◌, Some, None, refl, ap, ◌∙◌, length, get_or, map}
use Rattle.std.proofs.Common.{arith}
use Rattle.std.proofs.lemmas.Bool.Decides.{nat_tests}
use Rattle.std.proofs.lemmas.List.Folds.{find_at}
use Rattle.std.proofs.lemmas.Option.{slice_get_past, slice_get-get_or}
use Rattle.std.specs.List.{list_any, filter, AllByRecursion, position, position_or_len}
use Rattle.std.specs.Option.{option_map}
use Rattle.std.specs.Prelude.{find, slice_get}
use Rattle.pivot_check.specs.Kept.{last_that}

pub any-map : {A B : Type 0} (p : B → Bool) (v : A → B) (xs : List A) → list_any p (map v xs) ≡ list_any (λ x. p (v x)) xs
any-map p v [] = refl
any-map p v (x ∷ xs) = ap (λ b. p (v x) || b) (any-map p v xs)

pub find-map : {A B : Type 0} (p : B → Bool) (v : A → B) (xs : List A) → find p (map v xs) ≡ option_map v (find (λ x. p (v x)) xs)
find-map p v [] = refl
find-map p v (x ∷ xs) = grind (arith, find-map p v xs)

pub filter-map : {A B : Type 0} (p : B → Bool) (v : A → B) (xs : List A) → filter p (map v xs) ≡ map v (filter (λ x. p (v x)) xs)
filter-map p v [] = refl
filter-map p v (x ∷ xs) = grind (arith, filter-map p v xs)

pub last_that-map : {A B : Type 0} (p : B → Bool) (v : A → B) (xs : List A) → last_that p (map v xs) ≡ option_map v (last_that (λ x. p (v x)) xs)
last_that-map p v [] = refl
last_that-map p v (x ∷ xs) = grind (arith, last_that-map p v xs)

pub last_that_same : {X : Type 0} (p q : X → Bool) (xs : List X) → AllByRecursion (λ x. p x ≡ q x) xs → last_that p xs ≡ last_that q xs
last_that_same p q [] h = refl
last_that_same p q (x ∷ xs) h = let same = h.0 in grind (arith, last_that_same p q xs h.1)

pub map_same : {A B : Type 0} (v w : A → B) (xs : List A) → AllByRecursion (λ x. v x ≡ w x) xs → map v xs ≡ map w xs
map_same v w [] h = refl
map_same v w (x ∷ xs) h = λ i. h.0 i ∷ map_same v w xs h.1 i

-- the place of the first element that passes, and the element
pub found_at : {X : Type 0} (p : X → Bool) (d : X) (xs : List X) (i : ℕ) → position p xs ≡ Some i → (x : X) × (slice_get xs i ≡ Some x) × (find p xs ≡ Some x)
found_at p d xs i e =
    let n = position_or_len p xs in
    let here : (n < length xs) × (n ≡ i) = grind (arith, nat_tests) in
    let lt = here.0 in
    let at : slice_get xs i ≡ Some (get_or xs i d) = slice_get-get_or xs i d (omega (arith, here.1)) in
    (get_or xs i d, at, find_at p xs ∙ ap (slice_get xs) here.1 ∙ at)

pub found_nowhere : {X : Type 0} (p : X → Bool) (xs : List X) → position p xs ≡ None → find p xs ≡ None
found_nowhere p xs e = grind (arith, nat_tests, find_at p xs, slice_get_past xs (position_or_len p xs))
