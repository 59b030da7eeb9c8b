-- One run after another is moved on, the last first.
use Rattle.std.proofs.Common.{◌≡◌, ◌≤◌, ◌<◌, ◌-◌, ℕ, zero, suc, List, [], ◌∷◌, Some, length, map, set, take, refl}
use Rattle.std.proofs.Common.{sym, ap}
use Rattle.std.proofs.Common.{subst, ◌∙◌, arith, inl, inr}
use Rattle.std.proofs.lemmas.Bool.{cases_lt}
use Rattle.std.proofs.lemmas.List.{take-set}
use Rattle.std.specs.List.{slice_get}
use Rattle.std.specs.Prelude.{unwrap_or}
use Rattle.merging_runs.specs.MadeRuns.{AreMade, ChangesOne, IsMade, IsMovedOn}
use Rattle.merging_runs.specs.RunSizes.{AreReleased, RunSize, released_of}

module _ {R : Type 0} where
  -- the run at the place became such a one
  pub record IsAt (Becomes : R → R → Type 0) (was : R) (new : List R) (place : ℕ) : Type 0 where
    pub is : R
    pub at : slice_get new place ≡ Some is
    pub became : Becomes was is

  get_set : (xs : List R) (i : ℕ) (was is : R) → slice_get xs i ≡ Some was → slice_get (set xs i is) i ≡ Some is
  get_set [] i was is at = absurd cc
  get_set (x ∷ xs) zero was is at = refl
  get_set (x ∷ xs) (suc i) was is at = get_set xs i was is at

  get_set_behind : (xs : List R) (i j : ℕ) (is : R) → i < j → slice_get (set xs i is) j ≡ slice_get xs j
  get_set_behind [] i j is lt = refl
  get_set_behind (x ∷ xs) zero zero is lt = absurd (omega arith)
  get_set_behind (x ∷ xs) zero (suc j) is lt = refl
  get_set_behind (x ∷ xs) (suc i) zero is lt = absurd (omega arith)
  get_set_behind (x ∷ xs) (suc i) (suc j) is lt = get_set_behind xs i j is (omega arith)

  get_taken : (xs : List R) (i : ℕ) → slice_get (take (suc i) xs) i ≡ slice_get xs i
  get_taken [] i = refl
  get_taken (x ∷ xs) zero = refl
  get_taken (x ∷ xs) (suc i) = get_taken xs i

  take_fewer : (xs : List R) (i : ℕ) → take i (take (suc i) xs) ≡ take i xs
  take_fewer xs zero = refl
  take_fewer [] (suc i) = refl
  take_fewer (x ∷ xs) (suc i) = ap (λ l. x ∷ l) (take_fewer xs i)

  -- each run from a place on became such a one, and those before it are as they were
  pub record AreEachFrom (Becomes : R → R → Type 0) (from : ℕ) (old new : List R) : Type 0 where
    pub before : take from new ≡ take from old
    pub each : (place : ℕ) (was : R) → from ≤ place → slice_get old place ≡ Some was → IsAt Becomes was new place

  get_past : (xs : List R) (i : ℕ) (was : R) → length xs ≤ i → slice_get xs i ≡ Some was → i < length xs
  get_past [] i was le at = absurd cc
  get_past (x ∷ xs) zero was le at = absurd (omega arith)
  get_past (x ∷ xs) (suc i) was le at = let lt = get_past xs i was (omega arith) at in omega (arith, lt)

  -- there is none yet
  pub none_each : (Becomes : R → R → Type 0) (from : ℕ) (runs : List R) → length runs ≤ from → AreEachFrom Becomes from runs runs
  none_each Becomes from runs past = record {
    before = refl;
    each = λ place was le at. let lt = get_past runs place was (omega arith) at in absurd (omega (arith, lt));
  }

  same_at : (from : ℕ) (old mid : List R) → take (suc from) mid ≡ take (suc from) old → slice_get mid from ≡ slice_get old from
  same_at from old mid same = sym (get_taken mid from) ∙ ap (λ l. slice_get l from) same ∙ get_taken old from

  before_it : (from : ℕ) (old mid : List R) → take (suc from) mid ≡ take (suc from) old → take from mid ≡ take from old
  before_it from old mid same = sym (take_fewer mid from) ∙ ap (take from) same ∙ take_fewer old from

  -- the one before them, too
  pub one_each : (Becomes : R → R → Type 0) (from : ℕ) (old mid new : List R) → AreEachFrom Becomes (suc from) old mid → ChangesOne Becomes mid from new
      → AreEachFrom Becomes from old new
  one_each Becomes from old mid new are (inl (same, stays)) = record {
    before = ap (take from) same ∙ before_it from old mid are.before;
    each = λ place was le at. subst (λ l. IsAt Becomes was l place) (sym same) (elim (cases_lt from place) [
      | inl lt ↦ are.each place was (omega (arith, lt)) at
      | inr ge ↦
          let there : from ≡ place = omega (arith, le, ge) in
          let here : slice_get mid from ≡ Some was = same_at from old mid are.before ∙ ap (slice_get old) there ∙ at in
          record { is = was; at = ap (slice_get mid) (sym there) ∙ here; became = stays was here }
    ]);
  }
  one_each Becomes from old mid new are (inr (mark, is, at_mark, became, set_is)) = record {
    before = ap (take from) set_is ∙ take-set mid from is ∙ before_it from old mid are.before;
    each = λ place was le at. elim (cases_lt from place) [
      | inl lt ↦
          let later = are.each place was (omega (arith, lt)) at in
          record {
            is = later.is;
            at = ap (λ l. slice_get l place) set_is ∙ get_set_behind mid from place is lt ∙ later.at;
            became = later.became;
          }
      | inr ge ↦
          let there : from ≡ place = omega (arith, le, ge) in
          let same : Some mark ≡ Some was = sym at_mark ∙ same_at from old mid are.before ∙ ap (slice_get old) there ∙ at in
          let one : mark ≡ was = ap (λ o. unwrap_or o mark) same in
          record {
            is = is;
            at = ap (λ l. slice_get l place) set_is ∙ subst (λ n. slice_get (set mid from is) n ≡ Some is) there (get_set mid from mark is at_mark);
            became = subst (λ r. Becomes r is) one became;
          }
    ];
  }

  pub one_of : (x : R) (is : R) → Some x ≡ Some is → is ≡ x
  one_of x is same = ap (λ o. unwrap_or o x) (sym same)

  pub all_made : (Moves : R → R → Type 0) (sizes : R → RunSize) (o : ℕ) (old new : List R) → length new ≡ length old
      → ((place : ℕ) (was : R) → slice_get old place ≡ Some was → IsAt (IsMovedOn Moves sizes o) was new place) → AreMade Moves old new
  all_made Moves sizes o [] [] len each = tt
  all_made Moves sizes o [] (y ∷ ys) len each = absurd (omega (arith, len))
  all_made Moves sizes o (x ∷ xs) [] len each = absurd (omega (arith, len))
  all_made Moves sizes o (x ∷ xs) (y ∷ ys) len each =
      let first = each 0 x refl in (
        subst (λ r. IsMade Moves x r) (one_of y first.is first.at) first.became.made,
        all_made Moves sizes o xs ys (omega (arith, len)) (λ place was at. let one = each (suc place) was at in
            record { is = one.is; at = one.at; became = one.became }),
      )

  pub all_released : (Moves : R → R → Type 0) (sizes : R → RunSize) (o : ℕ) (old new : List R) → length new ≡ length old
      → ((place : ℕ) (was : R) → slice_get old place ≡ Some was → IsAt (IsMovedOn Moves sizes o) was new place)
      → AreReleased o (map sizes new) (map sizes old)
  all_released Moves sizes o [] [] len each = tt
  all_released Moves sizes o [] (y ∷ ys) len each = absurd (omega (arith, len))
  all_released Moves sizes o (x ∷ xs) [] len each = absurd (omega (arith, len))
  all_released Moves sizes o (x ∷ xs) (y ∷ ys) len each =
      let first = each 0 x refl in (
        subst (λ r. (sizes r).room ≤ (sizes x).room - released_of o (sizes x)) (one_of y first.is first.at) first.became.released,
        all_released Moves sizes o xs ys (omega (arith, len)) (λ place was at. let one = each (suc place) was at in
            record { is = one.is; at = one.at; became = one.became }),
      )
