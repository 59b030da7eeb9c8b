-- Runs stay sound.
use Rattle.std.proofs.Common.{◌≡◌, ◌≤◌, ◌<◌, ℕ, zero, suc, List, [], ◌∷◌, ◌++◌, length, get_or, sym, ap, subst, arith}
use Rattle.std.proofs.Math.ListN.{set}
use Rattle.std.specs.List.{AllByRecursion, remove}
use Rattle.std.specs.Prelude.{max, min}
use Rattle.merging_runs.proofs.RunSteps.{IsOneOfTwo}
use Rattle.merging_runs.specs.KeptRuns.{AreInOrder, AreSound, ReplacesRun, StaySound, StaySoundUpto}
use Rattle.merging_runs.specs.RunSizes.{RunSize, joined}

-- ---- what holds of each of them

module _ {R : Type 0} (P : R → Type 0) where
  -- another in the place of a run
  all_set : (rs : List R) (i : ℕ) (was is : R) → i < length rs → was ≡ get_or rs i was → (P was → P is) → AllByRecursion P rs → AllByRecursion P (set rs i is)
  all_set [] i was is lt at to h = absurd (omega arith)
  all_set (q ∷ rs) zero was is lt at to h = (to (subst P (sym at) h.0), h.1)
  all_set (q ∷ rs) (suc i) was is lt at to h = (h.0, all_set rs i was is (omega arith) at to h.1)

  -- one is taken out
  all_without : (rs : List R) (i : ℕ) → i < length rs → AllByRecursion P rs → AllByRecursion P (remove rs i)
  all_without [] i lt h = absurd (omega arith)
  all_without (q ∷ rs) zero lt h = h.1
  all_without (q ∷ rs) (suc i) lt h = (h.0, all_without rs i (omega arith) h.1)

  -- one is made of two
  all_joined : (earlier later : List R) (first second is : R) → (P first → P second → P is) → AllByRecursion P (earlier ++ (first ∷ second ∷ later))
      → AllByRecursion P (earlier ++ (is ∷ later))
  all_joined [] later first second is to h = (to h.0 h.1.0, h.1.1)
  all_joined (e ∷ earlier) later first second is to h = (h.0, all_joined earlier later first second is to h.1)

  two_of : (earlier later : List R) (first second : R) → AllByRecursion P (earlier ++ (first ∷ second ∷ later)) → P first × P second
  two_of [] later first second h = (h.0, h.1.0)
  two_of (e ∷ earlier) later first second h = two_of earlier later first second h.1

-- ---- their order

module _ {R : Type 0} (from : R → ℕ) (sizes : R → RunSize) where
  order_set : (rs : List R) (i : ℕ) (was is : R) → i < length rs → was ≡ get_or rs i was → (sizes is).last ≡ (sizes was).last → from was ≤ from is
      → AreInOrder from sizes rs → AreInOrder from sizes (set rs i is)
  order_set [] i was is lt at last rises h = absurd (omega arith)
  order_set (q ∷ rs) zero was is lt at last rises h =
      (subst (λ n. AllByRecursion (λ s. n ≤ from s) rs) (sym last) (subst (λ r. AllByRecursion (λ s. (sizes r).last ≤ from s) rs) (sym at) h.0), h.1)
  order_set (q ∷ rs) (suc i) was is lt at last rises h = (
    all_set (λ s. (sizes q).last ≤ from s) rs i was is (omega arith) at (λ le. omega (arith, le, rises)) h.0,
    order_set rs i was is (omega arith) at last rises h.1,
  )

  order_without : (rs : List R) (i : ℕ) → i < length rs → AreInOrder from sizes rs → AreInOrder from sizes (remove rs i)
  order_without [] i lt h = absurd (omega arith)
  order_without (q ∷ rs) zero lt h = h.1
  order_without (q ∷ rs) (suc i) lt h = (all_without (λ s. (sizes q).last ≤ from s) rs i (omega arith) h.0, order_without rs i (omega arith) h.1)

  order_of_two : (earlier later : List R) (first second : R) → AreInOrder from sizes (earlier ++ (first ∷ second ∷ later)) → (sizes first).last ≤ from second
  order_of_two [] later first second h = h.0.0
  order_of_two (e ∷ earlier) later first second h = order_of_two earlier later first second h.1

  -- the greater of two numbers is not above theirs
  both_before : (a b n : ℕ) (rs : List R) → n ≡ max a b → AllByRecursion (λ s. a ≤ from s) rs → AllByRecursion (λ s. b ≤ from s) rs
      → AllByRecursion (λ s. n ≤ from s) rs
  both_before a b n [] is h g = tt
  both_before a b n (r ∷ rs) is h g =
      let first = h.0 in
      let second = g.0 in
      (omega (arith, is, first, second), both_before a b n rs is h.1 g.1)

  order_joined : (earlier later : List R) (first second is : R) → (sizes is).last ≡ max (sizes first).last (sizes second).last
      → min (from first) (from second) ≤ from is → AreInOrder from sizes (earlier ++ (first ∷ second ∷ later))
      → AreInOrder from sizes (earlier ++ (is ∷ later))
  order_joined [] later first second is last low h = (both_before (sizes first).last (sizes second).last (sizes is).last later last h.0.1 h.1.0, h.1.1)
  order_joined (e ∷ earlier) later first second is last low h = (
    all_joined (λ s. (sizes e).last ≤ from s) earlier later first second is (λ a b. omega (arith, a, b, low)) h.0,
    order_joined earlier later first second is last low h.1,
  )

-- ---- they are sound

module _ {R : Type 0} (Holds : R → Type 0) (from : R → ℕ) (sizes : R → RunSize) where
  -- another in the place of a run
  pub other_sound : (rs : List R) (i : ℕ) (was is : R) → i < length rs → was ≡ get_or rs i was → ReplacesRun Holds from sizes was is
      → StaySound Holds from sizes rs (set rs i is)
  other_sound rs i was is lt at place = λ last h. record {
    each = all_set Holds rs i was is lt at place.holds h.each;
    upto = all_set (λ r. (sizes r).last ≤ last) rs i was is lt at (λ le. omega (arith, le, place.last)) h.upto;
    order = order_set from sizes rs i was is lt at place.last place.rises h.order;
  }

  -- a run is taken out
  pub rest_sound : (rs : List R) (i : ℕ) → i < length rs → StaySound Holds from sizes rs (remove rs i)
  rest_sound rs i lt = λ last h. record {
    each = all_without Holds rs i lt h.each;
    upto = all_without (λ r. (sizes r).last ≤ last) rs i lt h.upto;
    order = order_without from sizes rs i lt h.order;
  }

  -- one is made of two, of which it holds where their numbers are no more than `most`
  pub joined_sound : (most : ℕ) (earlier rs new : List R) (first second is : R) → IsOneOfTwo earlier rs new first second is
      → sizes is ≡ joined (sizes first) (sizes second) → min (from first) (from second) ≤ from is
      → ((sizes first).last ≤ most → (sizes second).last ≤ most → (sizes first).last ≤ from second → Holds first → Holds second → Holds is)
      → StaySoundUpto most Holds from sizes rs new
  joined_sound most earlier rs new first second is at size low holds = λ last upto was.
      let h = subst (AreSound Holds from sizes last) at.was was in
      let lasts = two_of (λ r. (sizes r).last ≤ last) earlier at.later first second h.upto in
      let own = order_of_two from sizes earlier at.later first second h.order in
      let greatest : (sizes is).last ≡ max (sizes first).last (sizes second).last = ap (λ r. r.last) size in
      subst (AreSound Holds from sizes last) (sym at.now) (record {
        each = all_joined Holds earlier at.later first second is
            (holds (omega (arith, lasts.0, upto)) (omega (arith, lasts.1, upto)) own) h.each;
        upto = all_joined (λ r. (sizes r).last ≤ last) earlier at.later first second is (λ a b. omega (arith, a, b, greatest)) h.upto;
        order = order_joined from sizes earlier at.later first second is greatest low h.order;
      })
