-- A fact of each element of a list.
use Rattle.std.proofs.Common.{filter, ◌≡◌, Bool, true, ◌||◌, ℕ, zero, suc, ◌<◌, List, [], ◌∷◌, ◌++◌, length, map}
use Rattle.std.proofs.Common.{take, drop, get_or, set, refl, sym, ap, subst, ◌∙◌, arith, remove, drop-cons}
use Rattle.std.proofs.lemmas.Bool.{and_parts}
use Rattle.std.proofs.lemmas.List.{set-get_or}
use Rattle.std.proofs.lemmas.List.Elements.{All-append, All-drop, All-filter, All-from_recursion, All-get_or, All-map}
use Rattle.std.proofs.lemmas.List.Elements.{All-set, All-take, All-weaker, recursion_from_All}
use Rattle.std.specs.List.{AllByRecursion, list_all, list_any}

module _ {X : Type 0} (P : X → Type 0) where
  pub all-each : (Q : X → Type 0) (xs : List X) → ((x : X) → P x → Q x) → AllByRecursion P xs → AllByRecursion Q xs
  all-each Q xs f h = recursion_from_All Q xs (All-weaker P Q f xs (All-from_recursion P xs h))

  pub all-append : (xs ys : List X) → AllByRecursion P xs → AllByRecursion P ys → AllByRecursion P (xs ++ ys)
  all-append xs ys h g = recursion_from_All P (xs ++ ys) (All-append P xs ys (All-from_recursion P xs h) (All-from_recursion P ys g))

  pub all-front : (xs ys : List X) → AllByRecursion P (xs ++ ys) → AllByRecursion P xs
  all-front [] ys h = tt
  all-front (x ∷ xs) ys h = (h.0, all-front xs ys h.1)

  pub all-back : (xs ys : List X) → AllByRecursion P (xs ++ ys) → AllByRecursion P ys
  all-back [] ys h = h
  all-back (x ∷ xs) ys h = all-back xs ys h.1

  pub all-set : (xs : List X) (i : ℕ) (y : X) → P y → AllByRecursion P xs → AllByRecursion P (set xs i y)
  all-set xs i y p h = recursion_from_All P (set xs i y) (All-set P xs i y p (All-from_recursion P xs h))

  pub all-take : (xs : List X) (i : ℕ) → AllByRecursion P xs → AllByRecursion P (take i xs)
  all-take xs i h = recursion_from_All P (take i xs) (All-take P i xs (All-from_recursion P xs h))

  pub all-get : (xs : List X) (i : ℕ) (d : X) → i < length xs → AllByRecursion P xs → P (get_or xs i d)
  all-get xs i d lt h = All-get_or P xs i d lt (All-from_recursion P xs h)

  pub all-filter : (p : X → Bool) (xs : List X) → AllByRecursion P xs → AllByRecursion P (filter p xs)
  all-filter p xs h = recursion_from_All P (filter p xs) (All-filter p P xs (All-from_recursion P xs h))

  pub all-remove : (xs : List X) (i : ℕ) → AllByRecursion P xs → AllByRecursion P (remove xs i)
  all-remove xs i h =
      let f = All-from_recursion P xs h in
      recursion_from_All P (remove xs i) (All-append P (take i xs) (drop (suc i) xs) (All-take P i xs f) (All-drop P (suc i) xs f))

  pub all-more : (xs : List X) (i : ℕ) (x : X) → i < length xs → x ≡ get_or xs i x → P x
      → AllByRecursion P (drop (suc i) xs) → AllByRecursion P (drop i xs)
  all-more xs i x lt at p h = subst (AllByRecursion P) (sym (drop-cons xs i x lt)) (subst P at p, h)

pub all-map : {X Y : Type 0} (P : Y → Type 0) (f : X → Y) (xs : List X) → AllByRecursion (λ x. P (f x)) xs → AllByRecursion P (map f xs)
all-map P f xs h = recursion_from_All P (map f xs) (All-map P f xs (All-from_recursion (λ x. P (f x)) xs h))

-- ---- a test of each element, or of some

pub all-pass : {X : Type 0} (p : X → Bool) (xs : List X) → list_all p xs ≡ true → AllByRecursion (λ x. p x ≡ true) xs
all-pass p [] t = tt
all-pass p (x ∷ xs) t = let q = and_parts (p x) (list_all p xs) t in (q.0, all-pass p xs q.1)

-- another element in a place
pub any-set : {X : Type 0} (p : X → Bool) (xs : List X) (i : ℕ) (y : X) → i < length xs
    → list_any p (set xs i y) ≡ (p y || list_any p (remove xs i))
any-set p [] i y lt = absurd (omega arith)
any-set p (x ∷ xs) zero y lt = refl
any-set p (x ∷ xs) (suc i) y lt = grind (arith, any-set p xs i y (omega arith))

pub any-remove : {X : Type 0} (p : X → Bool) (xs : List X) (i : ℕ) (x : X) → i < length xs → x ≡ get_or xs i x
    → list_any p xs ≡ (p x || list_any p (remove xs i))
any-remove p xs i x lt at = ap (list_any p) (sym (ap (set xs i) at ∙ set-get_or xs i x)) ∙ any-set p xs i x lt
