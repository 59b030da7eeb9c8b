-- What flags say of the entries of a page, and what a range passes over by them.
use Rattle.std.proofs.Common.{◌≡◌, ℕ, zero, suc, ◌+◌, ◌<◌, ◌≤◌, Bool, true, false, not, cond, List, [], ◌∷◌, ◌++◌}
use Rattle.std.proofs.Common.{length, take, drop, get_or, set, map, refl, sym, ap, ◌∙◌, arith}
use Rattle.std.proofs.Math.Seq.{map-set_same}
use Rattle.std.proofs.lemmas.Grind.{common_steps}
use Rattle.std.proofs.lemmas.List.{drop-map, get_or-map, map-append, map-set, take-map}
use Rattle.std.proofs.lemmas.List.Sums.{get_or-le-sum_by, sum_by-cons, sum_by-insert, sum_by-set, sum_by_push}
use Rattle.std.specs.List.{insert, list_any}
use Rattle.std.specs.Prelude.{count_by, nat_lt}
use Rattle.model.specs.Map.{Bytes}
use Rattle.sorted_pages.specs.Ranges.{shown}
use Rattle.sorted_pages.specs.Summaries.{AreOver}

-- ---- how many values show

module _ {X : Type 0} (p : X → Bool) where
  -- flags count as the values do
  pub count-flags : (xs : List X) → count_by (λ f. f) (map p xs) ≡ count_by p xs
  count-flags [] = refl
  count-flags (x ∷ xs) =
      sum_by-cons (λ f. cond f 1 0) (p x) (map p xs) ∙ ap (λ n. cond (p x) 1 0 + n) (count-flags xs) ∙ sym (sum_by-cons (λ y. cond (p y) 1 0) x xs)

  -- one of them passes where the count isn't 0
  pub any-count : (xs : List X) → nat_lt 0 (count_by p xs) ≡ list_any p xs
  any-count [] = refl
  any-count (x ∷ xs) = grind (arith, common_steps, any-count xs, sum_by-cons (λ y. cond (p y) 1 0) x xs)

  -- what is counted once another stands in a place
  pub count-set : (xs : List X) (i : ℕ) (y d : X) (n m : ℕ) (did : Bool) → i < length xs → d ≡ get_or xs i d → did ≡ p d
      → count_by p xs ≡ n → m + cond did 1 0 ≡ n + cond (p y) 1 0 → count_by p (set xs i y) ≡ m
  count-set xs i y d n m did lt is flag old new =
      let one : Bool → ℕ = λ b. cond b 1 0 in
      let was = ap (λ (x : X). one (p x)) (sym is) ∙ ap one (sym flag) in
      omega (arith, sum_by-set (λ x. cond (p x) 1 0) xs i y d lt, was)

  -- and once one came
  pub count-insert : (xs : List X) (i : ℕ) (y : X) (n m : ℕ) → count_by p xs ≡ n → m + 0 ≡ n + cond (p y) 1 0 → count_by p (insert xs i y) ≡ m
  count-insert xs i y n m old new = omega (arith, sum_by-insert (λ x. cond (p x) 1 0) xs i y)

  -- at the end too
  pub count-push : (xs : List X) (y : X) (n m : ℕ) → count_by p xs ≡ n → m + 0 ≡ n + cond (p y) 1 0 → count_by p (xs ++ y ∷ []) ≡ m
  count-push xs y n m old new = omega (arith, sum_by_push (λ x. cond (p x) 1 0) xs y)

  -- it isn't 0 where one passes
  pub count-some : (xs : List X) (i : ℕ) (d : X) (n : ℕ) → i < length xs → d ≡ get_or xs i d → p d ≡ true → count_by p xs ≡ n → 0 < n
  count-some xs i d n lt is t all =
      let one : Bool → ℕ = λ b. cond b 1 0 in
      let here = ap (λ (x : X). one (p x)) (sym is) ∙ ap one t in
      omega (arith, get_or-le-sum_by (λ x. cond (p x) 1 0) xs i d lt, here)

-- ---- flags of values that change or come

-- f of each, where one more came
map-insert : {X Y : Type 0} (f : X → Y) (xs : List X) (i : ℕ) (y : X) → i ≤ length xs → map f (insert xs i y) ≡ insert (map f xs) i (f y)
map-insert f xs zero y le = refl
map-insert f [] (suc i) y le = absurd (omega arith)
map-insert f (x ∷ xs) (suc i) y le = ap (λ l. f x ∷ l) (map-insert f xs i y (omega arith))

module _ {X : Type 0} (shows : X → Bool) where
  -- whether an entry's value shows
  abbrev shows_at : Bytes × X → Bool
  shows_at e = shows e.1

  abbrev flags_of : List (Bytes × X) → List Bool
  flags_of es = map shows_at es

  -- a value in another's place, with a flag of its own
  pub flags-set : (es : List (Bytes × X)) (fs : List Bool) (i : ℕ) (e : Bytes × X) (f : Bool) → fs ≡ flags_of es → f ≡ shows e.1
      → set fs i f ≡ flags_of (set es i e)
  flags-set es fs i e f are is = let m = map-set shows_at es i e in cc

  -- a value more, with its flag
  pub flags-insert : (es : List (Bytes × X)) (fs : List Bool) (i : ℕ) (e : Bytes × X) (f : Bool) → i ≤ length es
      → fs ≡ flags_of es → f ≡ shows e.1 → insert fs i f ≡ flags_of (insert es i e)
  flags-insert es fs i e f le are is = let m = map-insert shows_at es i e le in cc

  -- the same at the end
  pub flags-push : (es : List (Bytes × X)) (fs : List Bool) (e : Bytes × X) (f : Bool) → fs ≡ flags_of es → f ≡ shows e.1
      → fs ++ f ∷ [] ≡ flags_of (es ++ e ∷ [])
  flags-push es fs e f are is = let m = map-append shows_at es (e ∷ []) in cc

  -- a value's flag says whether it shows
  pub flag_at : (es : List (Bytes × X)) (fs : List Bool) (i : ℕ) (d : Bytes × X) (f : Bool) → i < length es → fs ≡ flags_of es
      → d ≡ get_or es i d → f ≡ get_or fs i f → f ≡ shows d.1
  flag_at es fs i d f lt are is at =
      at
      ∙ ap (λ (gs : List Bool). get_or gs i f) are
      ∙ get_or-map shows_at es i d f lt
      ∙ ap shows_at (sym is)

  -- a value in another's place that shows where that one did
  pub flags-alike : (es : List (Bytes × X)) (i : ℕ) (e d : Bytes × X) → d ≡ get_or es i d → shows e.1 ≡ shows d.1
      → flags_of (set es i e) ≡ flags_of es
  flags-alike es i e d is same = map-set_same shows_at es i e d (same ∙ ap shows_at is)

  -- and so as many show
  pub count-alike : (es : List (Bytes × X)) (i : ℕ) (e d : Bytes × X) → d ≡ get_or es i d → shows e.1 ≡ shows d.1
      → count_by shows_at (set es i e) ≡ count_by shows_at es
  count-alike es i e d is same =
      sym (count-flags shows_at (set es i e)) ∙ ap (count_by (λ f. f)) (flags-alike es i e d is same) ∙ count-flags shows_at es

  -- values that are dealt to two, with their flags
  pub flags-take : (i : ℕ) (es : List (Bytes × X)) (fs : List Bool) → fs ≡ flags_of es → take i fs ≡ flags_of (take i es)
  flags-take i es fs are = ap (take i) are ∙ take-map shows_at i es

  -- the upper ones of them
  pub flags-drop : (i : ℕ) (es : List (Bytes × X)) (fs : List Bool) → fs ≡ flags_of es → drop i fs ≡ flags_of (drop i es)
  flags-drop i es fs are = ap (drop i) are ∙ drop-map shows_at i es

  -- what the flags count is how many show
  pub count_from : (es : List (Bytes × X)) (fs : List Bool) (n : ℕ) → fs ≡ flags_of es → n ≡ count_by (λ f. f) fs
      → count_by shows_at es ≡ n
  count_from es fs n are is = sym (is ∙ ap (count_by (λ f. f)) are ∙ count-flags shows_at es)

-- ---- what a range passes over

module _ {X : Type 0} (hides : ℕ → X → Bool) (shows : X → Bool) (last : X → ℕ) (m n : ℕ) where
  -- from a place on to another, all of whose flags between them are false
  pub passed_over : (es : List (Bytes × X)) (from to : ℕ) → AreOver hides shows last n es → n ≤ m → from ≤ to
      → ((i : ℕ) → from ≤ i → i < to → get_or (map (λ (e : Bytes × X). shows e.1) es) i true ≡ false)
      → shown (hides m) (drop to es) ≡ shown (hides m) (drop from es)
  passed_over es zero zero o late le p = refl
  passed_over es (suc from) zero o late le p = absurd (omega arith)
  passed_over [] zero (suc to) o late le p = refl
  passed_over [] (suc from) (suc to) o late le p = refl
  passed_over (e ∷ es) zero (suc to) o late le p =
      passed_over es zero to o.1 late (omega arith) (λ i l h. p (suc i) (omega arith) (omega arith))
      ∙ sym (ap (λ b. cond b (shown (hides m) es) (e ∷ shown (hides m) es)) (o.0.after m late ∙ ap not (p zero (omega arith) (omega arith))))
  passed_over (e ∷ es) (suc from) (suc to) o late le p =
      passed_over es from to o.1 late (omega arith) (λ i l h. p (suc i) (omega arith) (omega arith))
