-- The next number, over lists.
use Rattle.std.proofs.Common.{Bool, Option, inl, inr, ◌≡◌, ◌≤◌, ◌<◌, ◌+◌, ℕ, zero, suc, true, false, List, [], ◌∷◌}
use Rattle.std.proofs.Common.{None, Some, length, get_or, take, refl, sym, ap, ◌∙◌, arith}
use Rattle.std.proofs.lemmas.Bool.{cases_lt}
use Rattle.std.proofs.lemmas.List.{take_all}
use Rattle.std.specs.List.{list_any}
use Rattle.std.specs.Prelude.{if◌then◌else◌, ◌||◌}
use Rattle.merging_runs.specs.Next.{IsNext, count_upto}

-- tests that say the same
pub next_same : (p q : ℕ → Bool) (n : ℕ) (found : Option ℕ) → ((k : ℕ) → p k ≡ q k) → IsNext p n found → IsNext q n found
next_same p q n None same h = λ k lt. sym (same k) ∙ h k lt
next_same p q n (Some m) same h = (h.0, sym (same m) ∙ h.1, λ k above below. sym (same k) ∙ h.2 k above below)

pub either : (a b c : Bool) → ((a || b) || c) ≡ (a || (b || c))
either true b c = refl
either false b c = refl

pub either_of_four : (a b c d : Bool) → (((a || b) || c) || d) ≡ (a || (b || (c || d)))
either_of_four true b c d = refl
either_of_four false b c d = either b c d

-- the test, or one of the first elements of the list has the number
abbrev pub with_first : {X : Type 0} → (X → ℕ → Bool) → ℕ → List X → (ℕ → Bool) → ℕ → Bool
with_first has i xs p k = p k || list_any (λ x. has x k) (take i xs)

pub first_none : {X : Type 0} (has : X → ℕ → Bool) (xs : List X) (p : ℕ → Bool) (n : ℕ) (found : Option ℕ) → IsNext p n found
    → IsNext (with_first has 0 xs p) n found
first_none has xs p n found h = next_same p (with_first has 0 xs p) n found (λ k. none (p k)) h
  where
    none : (a : Bool) → a ≡ (a || false)
    none true = refl
    none false = refl

any_more : {X : Type 0} (t : X → Bool) (xs : List X) (i : ℕ) (x : X) → i < length xs → x ≡ get_or xs i x
    → list_any t (take (suc i) xs) ≡ (list_any t (take i xs) || t x)
any_more t [] i x lt at = absurd (omega arith)
any_more t (y ∷ ys) zero x lt at = grind (arith, ap t at)
any_more t (y ∷ ys) (suc i) x lt at = ap (λ b. t y || b) (any_more t ys i x (omega arith) at) ∙ sym (either (t y) (list_any t (take i ys)) (t x))

-- one more was looked at
pub first_more : {X : Type 0} (has : X → ℕ → Bool) (xs : List X) (i j : ℕ) (x : X) (p : ℕ → Bool) (n : ℕ) (found : Option ℕ) → j ≡ suc i → i < length xs
    → x ≡ get_or xs i x
    → IsNext (λ k. with_first has i xs p k || has x k) n found → IsNext (with_first has j xs p) n found
first_more has xs i j x p n found next lt at h =
    next_same (λ k. with_first has i xs p k || has x k) (with_first has j xs p) n found (λ k. either (p k) (list_any (λ y. has y k) (take i xs)) (has x k)
    ∙ ap (λ b. p k || b) (sym (any_more (λ y. has y k) xs i x lt at)) ∙ ap (λ m. with_first has m xs p k) (sym next)) h

-- all were
pub first_all : {X : Type 0} (has : X → ℕ → Bool) (xs : List X) (i : ℕ) (p : ℕ → Bool) (n : ℕ) (found : Option ℕ) → length xs ≤ i
    → IsNext (with_first has i xs p) n found → IsNext (λ k. p k || list_any (λ x. has x k) xs) n found
first_all has xs i p n found le h = next_same (with_first has i xs p) _ n found (λ k. ap (λ l. p k || list_any (λ x. has x k) l) (take_all i xs le)) h

-- ---- how many pass

-- none behind the number
pub count_same : (p : ℕ → Bool) (n m : ℕ) → n ≤ m → ((k : ℕ) → n < k → k ≤ m → p k ≡ false) → count_upto p m ≡ count_upto p n
count_same p n zero le none = let is : n ≡ 0 = omega (arith, le) in ap (count_upto p) (sym is)
count_same p n (suc m) le none = elim (cases_lt n (suc m)) [
  | inl lt ↦
      let rest = count_same p n m (omega (arith, lt)) (λ k above upto. none k above (omega (arith, upto))) in
      let last = none (suc m) lt (omega arith) in
      ap (λ b. count_upto p m + (if b then 1 else 0)) last ∙ omega (arith, rest)
  | inr ge ↦ let is : n ≡ suc m = omega (arith, le, ge) in ap (count_upto p) (sym is)
]

-- the next one
pub count_next : (p : ℕ → Bool) (n m : ℕ) → n < m → p m ≡ true → ((k : ℕ) → n < k → k < m → p k ≡ false) → count_upto p m ≡ count_upto p n + 1
count_next p n zero lt is none = absurd (omega (arith, lt))
count_next p n (suc m) lt is none =
    let rest = count_same p n m (omega (arith, lt)) (λ k above upto. none k above (omega (arith, upto))) in
    ap (λ b. count_upto p m + (if b then 1 else 0)) is ∙ omega (arith, rest)
