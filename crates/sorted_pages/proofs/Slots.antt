-- The numbers that are held, by their places, and a bit for each.
use Rattle.std.proofs.Common.{◌≡◌, ℕ, ◌+◌, ◌-◌, ◌*◌, ◌%◌, ◌^◌, ◌<◌, ◌≤◌, Bool, true, false, cond, List, [], ◌∷◌, ◌++◌}
use Rattle.std.proofs.Common.{length, take, drop}
use Rattle.std.proofs.Common.{get_or, set, map, refl, sym, ap, subst, ◌∙◌, arith, zero, suc, max, min, bit_or, Some}
use Rattle.std.proofs.Common.{None, inl, inr, replicate, w64}
use Rattle.std.proofs.lemmas.Bool.{both_ways, cases_Bool, cases_eq, cases_lt, cond-true, eqb-true, eqb-false}
use Rattle.std.proofs.lemmas.Bool.{eq-eqb, or_cases, or_left, or_parts, or_right, false_from_ne_true}
use Rattle.std.proofs.lemmas.Bool.{true_from_ne_false}
use Rattle.std.proofs.lemmas.Bool.Decides.{nat_tests}
use Rattle.std.proofs.lemmas.Cmp.{nat_eq_equiv}
use Rattle.std.proofs.lemmas.Iterator.Adapters.{position_from-zero}
use Rattle.std.proofs.lemmas.List.{get_or-replicate, get_or-set_other, get_or-set_same, length-replicate}
use Rattle.std.proofs.lemmas.List.{length-set, take-append-drop, take_all}
use Rattle.std.proofs.lemmas.Map.Keys.{IsDistinct-cons, any_passes_from_place}
use Rattle.std.proofs.lemmas.Map.Made.{length-le_from_is_member}
use Rattle.std.specs.Set.{is_member}
use Rattle.std.proofs.lemmas.List.Folds.{list_any-append, list_any_at, list_any_more}
use Rattle.std.proofs.lemmas.Nat.Bits.{bit_at_and, bit_at_not, bit_at_or, bit_at_set_same, bit_at_set_other}
use Rattle.std.proofs.lemmas.Nat.Bits.{bit_at-lt, bit_at-zero}
use Rattle.std.proofs.lemmas.Option.{get_or_from_slice_get, slice_get-get_or, slice_get_within}
use Rattle.std.specs.Int.{bit_at, bit_not}
use Rattle.std.specs.Int.Bits.{bit_and}
use Rattle.std.specs.List.{AllByRecursion, IsDistinct, position_from}
use Rattle.std.specs.Prelude.{position, slice_get, nat_eq, nat_le, nat_lt, ◌&&◌, ◌==◌, ◌||◌, ◌⊎◌}
use Rattle.sorted_pages.specs.Held.{AreAmong, AreApart, AreBits, AreBounded, AreFreeFrom, AreHeldFrom, AreHeldOf}
use Rattle.sorted_pages.specs.Held.{AreHeldFor, IsHeldLate}
use Rattle.sorted_pages.specs.Held.{bit_of, is_among, with_number}
use Rattle.sorted_pages.specs.declared.held.TheConstants.{FREE}

-- ---- bits, as far as a loop has come

-- the bits of the first k numbers say whether p holds of them, and the others are 0
pub record AreBitsTo (p : ℕ → Bool) (ns : List ℕ) (k m : ℕ) : Type 0 where
  pub below : (i n : ℕ) → i < k → slice_get ns i ≡ Some n → bit_at m i ≡ bit_of (p n)
  pub above : (i : ℕ) → k ≤ i → bit_at m i ≡ 0

-- where p holds of none of the numbers, no bit is set
bits_zero : (p : ℕ → Bool) (ns : List ℕ) → ((n : ℕ) → is_among ns n ≡ true → p n ≡ false) → AreBits p ns 0
bits_zero p ns none i n at =
    bit_at-zero i ∙ sym (ap bit_of (none n (any_passes_from_place (λ x. x == n) ns i n at (eq-eqb n n refl))))

module _ (p : ℕ → Bool) (ns : List ℕ) (k m d : ℕ) where
  same_number : (n : ℕ) → k < length ns → slice_get ns k ≡ Some n → get_or ns k d ≡ n
  same_number n lt at = let e = slice_get-get_or ns k d lt in cc

  -- one more number, of which p holds
  pub bits-set : AreBitsTo p ns k m → k < length ns → k < 64 → p (get_or ns k d) ≡ true
      → AreBitsTo p ns (k + 1) (bit_or m (1 * 2 ^ k % 2 ^ 64))
  bits-set b lt within t = record {
    below = λ i n l at. by i n l at (cases_eq i k);
    above = λ i le. bit_at_set_other w64 m k within i (λ e. omega arith) ∙ b.above i (omega arith);
  }
    where
      by : (i n : ℕ) → i < k + 1 → slice_get ns i ≡ Some n → (i ≡ k) ⊎ (i ≡ k → ⊥) → bit_at (bit_or m (1 * 2 ^ k % 2 ^ 64)) i ≡ bit_of (p n)
      by i n l at (inl e) =
          let same = same_number n lt (subst (λ j. slice_get ns j ≡ Some n) e at) in
          ap (bit_at (bit_or m (1 * 2 ^ k % 2 ^ 64))) e ∙ bit_at_set_same w64 m k within ∙ sym (ap bit_of (sym (ap p same) ∙ t))
      by i n l at (inr e) = bit_at_set_other w64 m k within i e ∙ b.below i n (omega arith) at

  -- one more number, of which it doesn't
  pub bits-left : AreBitsTo p ns k m → k < length ns → p (get_or ns k d) ≡ false → AreBitsTo p ns (k + 1) m
  bits-left b lt f = record {
    below = λ i n l at. by i n l at (cases_eq i k);
    above = λ i le. b.above i (omega arith);
  }
    where
      by : (i n : ℕ) → i < k + 1 → slice_get ns i ≡ Some n → (i ≡ k) ⊎ (i ≡ k → ⊥) → bit_at m i ≡ bit_of (p n)
      by i n l at (inl e) =
          let same = same_number n lt (subst (λ j. slice_get ns j ≡ Some n) e at) in
          b.above i (omega arith) ∙ sym (ap bit_of (sym (ap p same) ∙ f))
      by i n l at (inr e) = b.below i n (omega arith) at

  -- all of them, where p doesn't hold of what stands in the free places behind them
  pub bits-used : AreBitsTo p ns k m → AreFreeFrom k ns → p FREE ≡ false → AreBits p ns m
  bits-used b free f i n at = elim (cases_lt i k) [
    | inl lt ↦ b.below i n lt at
    | inr le ↦ b.above i le ∙ sym (ap bit_of (ap p (free i n le at) ∙ f))
  ]

-- ---- the bound of the numbers that are held

raised_above : (d more n : ℕ) → (n == FREE) ≡ false → d ≤ FREE → min (d + 1) FREE ≤ more → d ≡ n → n < more
raised_above d more n f within above same = elim (cases_eq n FREE) [
  | inl e ↦ absurd (eqb-false n FREE f e)
  | inr other ↦ omega (arith, same, above, within)
]

-- no held number is at least `low` where that is at least the bound
pub none_between : (bound low high : ℕ) (ns : List ℕ) → AreBounded bound ns → bound ≤ low → high ≤ FREE → AreBits (λ n. nat_le low n && nat_lt n high) ns 0
none_between bound low high ns below le within = bits_zero _ ns (λ n here. elim (cases_Bool (n == FREE)) [
  | inl f ↦ (let is = eqb-true n FREE f in grind (arith, nat_tests))
  | inr f ↦ (let lt = below n f here in grind (arith, nat_tests))
])

-- what stands in free places isn't below a number
pub free_above : (high : ℕ) → high ≤ FREE → nat_lt FREE high ≡ false
free_above high le = grind (arith, nat_tests)

-- a number that is at least the bound isn't held
pub none_above : (bound n : ℕ) (ns : List ℕ) → AreBounded bound ns → bound ≤ n → n < FREE → is_among ns n ≡ false
none_above bound n ns below le lt = false_from_ne_true _ (λ here.
    let other : (n == FREE) ≡ false = false_from_ne_true _ (λ e. (let is = eqb-true n FREE e in omega arith)) in
    let less = below n other here in
    omega arith)

-- a number more, and a bound above it
pub bounded_more : (ns : List ℕ) (k d bound more : ℕ) → AreBounded bound (take k ns) → k < length ns → d ≡ get_or ns k 0 → d ≤ FREE → bound ≤ more
    → min (d + 1) FREE ≤ more → AreBounded more (take (k + 1) ns)
bounded_more ns k d bound more below lt at within le above n f here =
    elim (or_cases (is_among (take k ns) n) (d == n) (ap (λ x. is_among (take k ns) n || (x == n)) at ∙ sym (list_any_more (λ x. x == n) ns k 0 lt) ∙ here)) [
      | inl t ↦ (let old = below n f t in omega arith)
      | inr t ↦ raised_above d more n f within above (eqb-true d n t)
    ]

-- ---- the first place of a number

module _ (n : ℕ) where
  position_cons : (m : ℕ) (ms : List ℕ) (k : ℕ) → position_from (λ x. x == n) k (m ∷ ms) ≡ cond (m == n) (Some k) (position_from (λ x. x == n) (k + 1) ms)
  position_cons m ms k = refl

  -- it is a place of the number
  found_from : (ms : List ℕ) (k i : ℕ) → position_from (λ x. x == n) k ms ≡ Some i → (k ≤ i) × (slice_get ms (i - k) ≡ Some n)
  found_from [] k i e = cc
  found_from (m ∷ ms) k i e = by (m == n) refl (found_from ms (k + 1) i) e
    where
      by : (b : Bool) → (m == n) ≡ b
          → (position_from (λ x. x == n) (k + 1) ms ≡ Some i → (k + 1 ≤ i) × (slice_get ms (i - (k + 1)) ≡ Some n))
          → cond b (Some k) (position_from (λ x. x == n) (k + 1) ms) ≡ Some i → (k ≤ i) × (slice_get (m ∷ ms) (i - k) ≡ Some n)
      by true t r g =
          let same : k ≡ i = cc in
          let here : i - k ≡ 0 = omega arith in
          (omega arith, ap (slice_get (m ∷ ms)) here ∙ ap Some (eqb-true m n t))
      by false t r g =
          let f = r g in
          let le = f.0 in
          let next : i - k ≡ suc (i - (k + 1)) = omega arith in
          (omega arith, ap (slice_get (m ∷ ms)) next ∙ f.1)

  none_from : (ms : List ℕ) (k : ℕ) → position_from (λ x. x == n) k ms ≡ None → is_among ms n ≡ false
  none_from [] k e = refl
  none_from (m ∷ ms) k e = by (m == n) (none_from ms (k + 1)) e
    where
      by : (b : Bool) → (position_from (λ x. x == n) (k + 1) ms ≡ None → is_among ms n ≡ false)
          → cond b (Some k) (position_from (λ x. x == n) (k + 1) ms) ≡ None → (b || is_among ms n) ≡ false
      by true r g = cc
      by false r g = r g

  pub found_place : (ms : List ℕ) (i : ℕ) → position (λ x. x == n) ms ≡ Some i → slice_get ms i ≡ Some n
  found_place ms i e =
      let f = found_from ms 0 i (sym (position_from-zero (λ x. x == n) ms) ∙ e) in
      let same : i - 0 ≡ i = omega arith in
      ap (slice_get ms) (sym same) ∙ f.1

  pub placed_among : (ms : List ℕ) (i : ℕ) → position (λ x. x == n) ms ≡ Some i → is_among ms n ≡ true
  placed_among ms i e = any_passes_from_place (λ x. x == n) ms i n (found_place ms i e) (eq-eqb n n refl)

  pub no_place : (ms : List ℕ) → position (λ x. x == n) ms ≡ None → is_among ms n ≡ false
  no_place ms e = none_from ms 0 (sym (position_from-zero (λ x. x == n) ms) ∙ e)

  -- one that isn't among them has no place
  none_at : (ms : List ℕ) (k : ℕ) → is_among ms n ≡ false → position_from (λ x. x == n) k ms ≡ None
  none_at [] k h = refl
  none_at (m ∷ ms) k h = let p = or_parts (m == n) (is_among ms n) h in rw p.0 (none_at ms (k + 1) p.1)

  pub without_place : (ms : List ℕ) → is_among ms n ≡ false → position (λ x. x == n) ms ≡ None
  without_place ms h = position_from-zero (λ x. x == n) ms ∙ none_at ms 0 h

  -- its first place among the first k is that among all
  found_early : (ms : List ℕ) (k j i : ℕ) → position_from (λ x. x == n) j (take k ms) ≡ Some i → position_from (λ x. x == n) j ms ≡ Some i
  found_early [] zero j i e = e
  found_early [] (suc k) j i e = e
  found_early (m ∷ ms) zero j i e = cc
  found_early (m ∷ ms) (suc k) j i e = by (m == n) (found_early ms k (j + 1) i) e
    where
      by : (b : Bool)
          → (position_from (λ x. x == n) (j + 1) (take k ms) ≡ Some i → position_from (λ x. x == n) (j + 1) ms ≡ Some i)
          → cond b (Some j) (position_from (λ x. x == n) (j + 1) (take k ms)) ≡ Some i
          → cond b (Some j) (position_from (λ x. x == n) (j + 1) ms) ≡ Some i
      by true r g = g
      by false r g = r g

  pub found_used : (ms : List ℕ) (k i : ℕ) → position (λ x. x == n) (take k ms) ≡ Some i → position (λ x. x == n) ms ≡ Some i
  found_used ms k i e =
      position_from-zero (λ x. x == n) ms ∙ found_early ms k 0 i (sym (position_from-zero (λ x. x == n) (take k ms)) ∙ e)

  -- what isn't among the first k isn't there at all, where the places behind them are free
  among_used : (ms : List ℕ) (k : ℕ) → AreFreeFrom k ms → (n == FREE) ≡ false → is_among (take k ms) n ≡ false → is_among ms n ≡ false
  among_used [] k free f h = refl
  among_used (m ∷ ms) zero free f h =
      let here : (m == n) ≡ false = false_from_ne_true _ (λ e. both_ways (n == FREE) f (eq-eqb n FREE (sym (eqb-true m n e) ∙ free 0 m (omega arith) refl))) in
      rw here (among_used ms zero (λ i q le at. free (suc i) q (omega arith) at) f refl)
  among_used (m ∷ ms) (suc k) free f h =
      let p = or_parts (m == n) (is_among (take k ms) n) h in
      rw p.0 (among_used ms k (λ i q le at. free (suc i) q (omega arith) at) f p.1)

  pub none_used : (ms : List ℕ) (k : ℕ) → AreFreeFrom k ms → (n == FREE) ≡ false → position (λ x. x == n) (take k ms) ≡ None
      → position (λ x. x == n) ms ≡ None
  none_used ms k free f e = without_place ms (among_used ms k free f (no_place (take k ms) e))

-- ---- the first free place

-- it is the one behind the first k, where none of these is free
free_behind : (ms : List ℕ) (k j : ℕ) → AreFreeFrom k ms → k < length ms → position_from (λ x. x == FREE) j (take k ms) ≡ None
    → position_from (λ x. x == FREE) j ms ≡ Some (j + k)
free_behind [] k j free lt e = absurd (omega arith)
free_behind (m ∷ ms) zero j free lt e =
    let here : (m == FREE) ≡ true = eq-eqb m FREE (free 0 m (omega arith) refl) in
    let same : j ≡ j + 0 = omega arith in
    rw here (ap Some same)
free_behind (m ∷ ms) (suc k) j free lt e =
    by (m == FREE) (free_behind ms k (j + 1) (λ i q le at. free (suc i) q (omega arith) at) (omega arith)) e
  where
    by : (b : Bool)
        → (position_from (λ x. x == FREE) (j + 1) (take k ms) ≡ None → position_from (λ x. x == FREE) (j + 1) ms ≡ Some (j + 1 + k))
        → cond b (Some j) (position_from (λ x. x == FREE) (j + 1) (take k ms)) ≡ None
        → cond b (Some j) (position_from (λ x. x == FREE) (j + 1) ms) ≡ Some (j + suc k)
    by true r g = cc
    by false r g = let same : j + 1 + k ≡ j + suc k = omega arith in r g ∙ ap Some same

free_at : (ms : List ℕ) (k : ℕ) → AreFreeFrom k ms → k < length ms → position (λ x. x == FREE) (take k ms) ≡ None
    → position (λ x. x == FREE) ms ≡ Some k
free_at ms k free lt e =
    let found = free_behind ms k 0 free lt (sym (position_from-zero (λ x. x == FREE) (take k ms)) ∙ e) in
    let same : 0 + k ≡ k = omega arith in
    position_from-zero (λ x. x == FREE) ms ∙ found ∙ ap Some same

pub free_next : (n : ℕ) (ms : List ℕ) (k : ℕ) → n ≡ FREE → AreFreeFrom k ms → k < length ms → position (λ x. x == n) (take k ms) ≡ None
    → position (λ x. x == n) ms ≡ Some k
free_next n ms k is free lt =
    subst (λ q. position (λ x. x == q) (take k ms) ≡ None → position (λ x. x == q) ms ≡ Some k) (sym is) (free_at ms k free lt)

-- ---- the places that are free

-- all are, where nothing else was put in
pub free_all : (k used : ℕ) → AreFreeFrom used (replicate k FREE)
free_all k used i n le at =
    let same = get_or_from_slice_get (replicate k FREE) i n n at in
    let within = slice_get_within (replicate k FREE) i n at in
    sym same ∙ get_or-replicate k i FREE n (omega (arith, length-replicate k FREE))

-- those behind the first that are in use are
pub free_later : (used k : ℕ) (ns : List ℕ) → AreFreeFrom used ns → used ≤ k → AreFreeFrom k ns
free_later used k ns free le i n past at = free i n (omega arith) at

-- they stay so where a number comes into a place before them
free_set : (ms : List ℕ) (used more i n : ℕ) → AreFreeFrom used ms → used ≤ more → i < more → AreFreeFrom more (set ms i n)
free_set ms used more i n free le lt j q past at =
    let same = get_or_from_slice_get (set ms i n) j q q at in
    let other = get_or-set_other ms i j n q (λ e. omega arith) in
    let within = slice_get_within (set ms i n) j q at in
    let old = slice_get-get_or ms j q (omega (arith, length-set ms i n)) in
    sym same ∙ other ∙ free j (get_or ms j q) (omega arith) old

-- ---- a number more, in the first free place

module _ (n : ℕ) where
  with_from : (ms : List ℕ) (k i : ℕ) → position_from (λ x. x == FREE) k ms ≡ Some i
      → (k ≤ i) × (set ms (i - k) n ≡ with_number n ms)
  with_from [] k i e = cc
  with_from (m ∷ ms) k i e = by (m == FREE) (with_from ms (k + 1) i) e
    where
      by : (b : Bool)
          → (position_from (λ x. x == FREE) (k + 1) ms ≡ Some i → (k + 1 ≤ i) × (set ms (i - (k + 1)) n ≡ with_number n ms))
          → cond b (Some k) (position_from (λ x. x == FREE) (k + 1) ms) ≡ Some i
          → (k ≤ i) × (set (m ∷ ms) (i - k) n ≡ cond b (n ∷ ms) (m ∷ with_number n ms))
      by true r g =
          let same : k ≡ i = cc in
          let here : i - k ≡ 0 = omega arith in
          (omega arith, ap (λ j. set (m ∷ ms) j n) here)
      by false r g =
          let f = r g in
          let le = f.0 in
          let next : i - k ≡ suc (i - (k + 1)) = omega arith in
          (omega arith, ap (λ j. set (m ∷ ms) j n) next ∙ ap (λ l. m ∷ l) f.1)

  pub with_found : (ms : List ℕ) (i : ℕ) → position (λ x. x == FREE) ms ≡ Some i → set ms i n ≡ with_number n ms
  with_found ms i e =
      let f = with_from ms 0 i (sym (position_from-zero (λ x. x == FREE) ms) ∙ e) in
      let same : i - 0 ≡ i = omega arith in
      ap (λ j. set ms j n) (sym same) ∙ f.1

  -- the places behind it stay free
  pub free_with : (ms : List ℕ) (used more i : ℕ) → position (λ x. x == FREE) ms ≡ Some i → AreFreeFrom used ms → used ≤ more → i < more
      → AreFreeFrom more (with_number n ms)
  free_with ms used more i e free le lt = subst (AreFreeFrom more) (with_found ms i e) (free_set ms used more i n free le lt)

  without_free : (ms : List ℕ) → is_among ms FREE ≡ false → ms ≡ with_number n ms
  without_free [] h = refl
  without_free (m ∷ ms) h =
      let p = or_parts (m == FREE) _ h in
      sym (ap (λ b. cond b (n ∷ ms) (m ∷ with_number n ms)) p.0 ∙ ap (λ l. m ∷ l) (sym (without_free ms p.1)))

  pub with_none : (ms : List ℕ) → position (λ x. x == FREE) ms ≡ None → ms ≡ with_number n ms
  with_none ms e = without_free ms (no_place FREE ms e)

  -- nothing else comes in
  pub among_with : (ms : List ℕ) (q : ℕ) → is_among (with_number n ms) q ≡ true → (q ≡ n) ⊎ (is_among ms q ≡ true)
  among_with [] q h = inr h
  among_with (m ∷ ms) q h = by (m == FREE) (among_with ms q) h
    where
      by : (b : Bool) → (is_among (with_number n ms) q ≡ true → (q ≡ n) ⊎ (is_among ms q ≡ true))
          → is_among (cond b (n ∷ ms) (m ∷ with_number n ms)) q ≡ true → (q ≡ n) ⊎ ((m == q || is_among ms q) ≡ true)
      by true r g = elim (or_cases (n == q) (is_among ms q) g) [ inl e ↦ inl (sym (eqb-true n q e)) | inr e ↦ inr (or_right (m == q) _ e) ]
      by false r g = elim (or_cases (m == q) (is_among (with_number n ms) q) g) [
        | inl e ↦ inr (or_left (m == q) _ e)
        | inr e ↦ elim (r e) [ inl f ↦ inl f | inr f ↦ inr (or_right (m == q) _ f) ]
      ]

  -- only what was free goes
  pub among_before : (ms : List ℕ) (q : ℕ) → (q == FREE) ≡ false → is_among ms q ≡ true → is_among (with_number n ms) q ≡ true
  among_before [] q f h = h
  among_before (m ∷ ms) q f h = by (m == FREE) refl (among_before ms q f)
    where
      by : (b : Bool) → (m == FREE) ≡ b → (is_among ms q ≡ true → is_among (with_number n ms) q ≡ true)
          → is_among (cond b (n ∷ ms) (m ∷ with_number n ms)) q ≡ true
      by true t r = elim (or_cases (m == q) (is_among ms q) h) [
        | inl e ↦ absurd (both_ways (q == FREE) f (ap (λ x. x == FREE) (sym (eqb-true m q e)) ∙ t))
        | inr e ↦ or_right (n == q) _ e
      ]
      by false t r = elim (or_cases (m == q) (is_among ms q) h) [
        | inl e ↦ or_left (m == q) _ e
        | inr e ↦ or_right (m == q) _ (r e)
      ]

  -- it is in where a place was free
  pub comes_in : (ms : List ℕ) → is_among ms FREE ≡ true → is_among (with_number n ms) n ≡ true
  comes_in [] h = h
  comes_in (m ∷ ms) h = by (m == FREE) (comes_in ms) h
    where
      by : (b : Bool) → (is_among ms FREE ≡ true → is_among (with_number n ms) n ≡ true) → (b || is_among ms FREE) ≡ true
          → is_among (cond b (n ∷ ms) (m ∷ with_number n ms)) n ≡ true
      by true r g = or_left (n == n) _ (eq-eqb n n refl)
      by false r g = or_right (m == n) _ (r g)

  -- each stands where it stood, but the new one
  pub stands_with : (ms : List ℕ) (i q : ℕ) → slice_get (with_number n ms) i ≡ Some q → (slice_get ms i ≡ Some q) ⊎ (q ≡ n)
  stands_with [] i q h = inl h
  stands_with (m ∷ ms) zero q h = by (m == FREE) h
    where
      by : (b : Bool) → slice_get (cond b (n ∷ ms) (m ∷ with_number n ms)) zero ≡ Some q → (Some m ≡ Some q) ⊎ (q ≡ n)
      by true g = let same : q ≡ n = cc in inr same
      by false g = inl g
  stands_with (m ∷ ms) (suc i) q h = by (m == FREE) (stands_with ms i q) h
    where
      by : (b : Bool) → (slice_get (with_number n ms) i ≡ Some q → (slice_get ms i ≡ Some q) ⊎ (q ≡ n))
          → slice_get (cond b (n ∷ ms) (m ∷ with_number n ms)) (suc i) ≡ Some q → (slice_get ms i ≡ Some q) ⊎ (q ≡ n)
      by true r g = inl g
      by false r g = r g

  pub length_with : (ms : List ℕ) → length (with_number n ms) ≡ length ms
  length_with [] = refl
  length_with (m ∷ ms) = by (m == FREE) (length_with ms)
    where
      by : (b : Bool) → length (with_number n ms) ≡ length ms → length (cond b (n ∷ ms) (m ∷ with_number n ms)) ≡ suc (length ms)
      by true r = refl
      by false r = ap suc r

  pub apart_with : (ms : List ℕ) → is_among ms n ≡ false → AreApart ms → AreApart (with_number n ms)
  apart_with [] h a = tt
  apart_with (m ∷ ms) h a =
      let p = or_parts (m == n) (is_among ms n) h in
      by (m == FREE) refl p.0 p.1 (apart_with ms p.1 a.1)
    where
      by : (b : Bool) → (m == FREE) ≡ b → (m == n) ≡ false → is_among ms n ≡ false → AreApart (with_number n ms)
          → AreApart (cond b (n ∷ ms) (m ∷ with_number n ms))
      by true t d g r = (λ f. g, a.1)
      by false t d g r = (
        λ f. false_from_ne_true _ (λ e. elim (among_with ms m e) [
          | inl s ↦ eqb-false m n d s
          | inr s ↦ both_ways _ (a.0 t) s
        ]),
        r,
      )

-- ---- numbers that are released

-- what stands in a place afterwards
abbrev pub kept_of : List ℕ → ℕ → ℕ
kept_of ns n = cond (is_among ns n) n FREE

module _ (ns : List ℕ) where
  -- one place more
  released-more : (old now : List ℕ) (k v : ℕ) → now ≡ map (kept_of ns) (take k old) ++ drop k old → k < length old
      → v ≡ kept_of ns (get_or old k 0) → set now k v ≡ map (kept_of ns) (take (k + 1) old) ++ drop (k + 1) old
  released-more [] now k v e lt w = absurd (omega arith)
  released-more (x ∷ old) now zero v e lt w = ap (λ l. set l 0 v) e ∙ ap (λ y. y ∷ old) w
  released-more (x ∷ old) now (suc k) v e lt w =
      let next : suc k + 1 ≡ suc (k + 1) = omega arith in
      ap (λ l. set l (suc k) v) e
      ∙ ap (λ l. kept_of ns x ∷ l) (released-more old (map (kept_of ns) (take k old) ++ drop k old) k v refl (omega arith) w)
      ∙ ap (λ j. map (kept_of ns) (take j (x ∷ old)) ++ drop j (x ∷ old)) (sym next)

  -- what is still to come is as it was
  pub released-next : (old : List ℕ) (k : ℕ) → k < length old → get_or (map (kept_of ns) (take k old) ++ drop k old) k 0 ≡ get_or old k 0
  released-next [] k lt = absurd (omega arith)
  released-next (x ∷ old) zero lt = refl
  released-next (x ∷ old) (suc k) lt = released-next old k (omega arith)

  -- what is free stays so
  free_stays : (m : ℕ) → m ≡ FREE → kept_of ns m ≡ FREE
  free_stays m e = by (is_among ns m)
    where
      by : (b : Bool) → cond b m FREE ≡ FREE
      by true = e
      by false = refl

  released-used : (old : List ℕ) (k : ℕ) → AreFreeFrom k old → map (kept_of ns) (take k old) ++ drop k old ≡ map (kept_of ns) old
  released-used [] zero free = refl
  released-used [] (suc k) free = refl
  released-used (x ∷ old) zero free =
      let rest = released-used old zero (λ i q le at. free (suc i) q (omega arith) at) in
      let here = free 0 x (omega arith) refl in
      ap (λ y. y ∷ old) (here ∙ sym (free_stays x here)) ∙ ap (λ l. kept_of ns x ∷ l) rest
  released-used (x ∷ old) (suc k) free = ap (λ l. kept_of ns x ∷ l) (released-used old k (λ i q le at. free (suc i) q (omega arith) at))

  free_kept : (old : List ℕ) (k : ℕ) → AreFreeFrom k old → AreFreeFrom k (map (kept_of ns) old)
  free_kept [] k free i n le at = free i n le at
  free_kept (x ∷ old) k free zero n le at =
      let same : kept_of ns x ≡ n = cc in
      sym same ∙ free_stays x (free 0 x le refl)
  free_kept (x ∷ old) zero free (suc i) n le at = free_kept old zero (λ j q l at. free (suc j) q (omega arith) at) i n (omega arith) at
  free_kept (x ∷ old) (suc k) free (suc i) n le at = free_kept old k (λ j q l at. free (suc j) q (omega arith) at) i n (omega arith) at

  -- the first k places are done: those from `used` on are free
  pub record ReleasedTo (old : List ℕ) (k used : ℕ) (now : List ℕ) : Type 0 where
    pub is : now ≡ map (kept_of ns) (take k old) ++ drop k old
    pub within : used ≤ k
    pub free : (i n : ℕ) → used ≤ i → i < k → slice_get now i ≡ Some n → n ≡ FREE

  pub released-step : (old now : List ℕ) (k used more v : ℕ) → ReleasedTo old k used now → k < length old → v ≡ kept_of ns (get_or old k 0)
      → more ≡ cond (v == FREE) used (k + 1) → ReleasedTo old (k + 1) more (set now k v)
  released-step old now k used more v r lt at counted = record {
    is = released-more old now k v r.is lt at;
    within = by (v == FREE) counted;
    free = λ i n le less here. elim (cases_eq i k) [
      | inl e ↦ last n (subst (λ j. more ≤ j) e le) (subst (λ j. slice_get (set now k v) j ≡ Some n) e here)
      | inr other ↦ r.free i n (earlier (v == FREE) counted i le) (omega arith) (before i n other here)
    ];
  }
    where
      by : (b : Bool) → more ≡ cond b used (k + 1) → more ≤ k + 1
      by true e = let small = r.within in omega arith
      by false e = omega arith

      earlier : (b : Bool) → more ≡ cond b used (k + 1) → (i : ℕ) → more ≤ i → used ≤ i
      earlier true e i le = omega arith
      earlier false e i le = let small = r.within in omega arith

      before : (i n : ℕ) → (i ≡ k → ⊥) → slice_get (set now k v) i ≡ Some n → slice_get now i ≡ Some n
      before i n other here =
          let same = get_or_from_slice_get (set now k v) i n n here in
          let is = get_or-set_other now k i v n other in
          let within = slice_get_within (set now k v) i n here in
          let old = slice_get-get_or now i n (omega (arith, length-set now k v)) in
          old ∙ ap Some (sym is ∙ same)

      last : (n : ℕ) → more ≤ k → slice_get (set now k v) k ≡ Some n → n ≡ FREE
      last n le here =
          let within = slice_get_within (set now k v) k n here in
          let same = get_or_from_slice_get (set now k v) k n n here in
          let is = get_or-set_same now k v n (omega (arith, length-set now k v)) in
          elim (cases_Bool (v == FREE)) [
            | inl f ↦ sym same ∙ is ∙ eqb-true v FREE f
            | inr f ↦ absurd (let e = counted ∙ ap (λ b. cond b used (k + 1)) f in omega arith)
          ]

  -- once each place is done that was in use
  pub released-all : (old now : List ℕ) (k used : ℕ) → ReleasedTo old k used now → AreFreeFrom k old → now ≡ map (kept_of ns) old
  released-all old now k used r free = r.is ∙ released-used old k free

  pub free_released : (old now : List ℕ) (k used : ℕ) → ReleasedTo old k used now → AreFreeFrom k old → AreFreeFrom used now
  free_released old now k used r free i n le at = elim (cases_lt i k) [
    | inl less ↦ r.free i n le less at
    | inr past ↦ free_kept old k free i n past (subst (λ l. slice_get l i ≡ Some n) (released-all old now k used r free) at)
  ]

  among_kept : (ms : List ℕ) (q : ℕ) → (q == FREE) ≡ false → is_among (map (kept_of ns) ms) q ≡ true → is_among ms q ≡ true
  among_kept [] q f h = h
  among_kept (m ∷ ms) q f h = by (is_among ns m) (among_kept ms q f) h
    where
      by : (b : Bool) → (is_among (map (kept_of ns) ms) q ≡ true → is_among ms q ≡ true)
          → (cond b m FREE == q || is_among (map (kept_of ns) ms) q) ≡ true → (m == q || is_among ms q) ≡ true
      by true r g = elim (or_cases (m == q) _ g) [ inl e ↦ or_left (m == q) _ e | inr e ↦ or_right (m == q) _ (r e) ]
      by false r g = elim (or_cases (FREE == q) _ g) [
        | inl e ↦ absurd (both_ways (q == FREE) f (eq-eqb q FREE (sym (eqb-true FREE q e))))
        | inr e ↦ or_right (m == q) _ (r e)
      ]

  -- those that are kept still differ
  pub apart_kept : (ms : List ℕ) → AreApart ms → AreApart (map (kept_of ns) ms)
  apart_kept [] a = tt
  apart_kept (m ∷ ms) a = (by (is_among ns m), apart_kept ms a.1)
    where
      by : (b : Bool) → (cond b m FREE == FREE) ≡ false → is_among (map (kept_of ns) ms) (cond b m FREE) ≡ false
      by true f = false_from_ne_true _ (λ e. both_ways _ (a.0 f) (among_kept ms m f e))
      by false f = absurd (both_ways (FREE == FREE) f (eq-eqb FREE FREE refl))

-- ---- the numbers that are held once it is done for some of them

-- only numbers that were held or aren't below `last` are held, and of these only the given ones; where these fit, the first k are held that
-- aren't below `last`, and those that were held still are
pub record HoldsSo (last : ℕ) (numbers : List ℕ) (k : ℕ) (old now : List ℕ) : Type 0 where
  pub long : length now ≡ 64
  pub apart : AreApart now
  pub from : AreHeldFrom last old now
  pub within : (n : ℕ) → (n == FREE) ≡ false → is_among now n ≡ true → is_among numbers n ≡ true
  pub held : length numbers ≤ 64 → (n : ℕ) → is_among numbers n ≡ true → is_among old n ≡ true → is_among now n ≡ true
  pub added : length numbers ≤ 64 → (n : ℕ) → is_among (take k numbers) n ≡ true → last ≤ n → is_among now n ≡ true

-- by counting, a place is free
member_among : (ns : List ℕ) (q : ℕ) → is_among ns q ≡ is_member nat_eq ns q
member_among [] q = refl
member_among (n ∷ ns) q = rw (member_among ns q, nat_eq_equiv.symm n q) refl

none_alike : (ms : List ℕ) (n : ℕ) → is_among ms n ≡ false → AllByRecursion (λ y. nat_eq n y ≡ false) ms
none_alike [] n h = tt
none_alike (m ∷ ms) n h = let p = or_parts (m == n) (is_among ms n) h in (nat_eq_equiv.symm n m ∙ p.0, none_alike ms n p.1)

all_distinct : (ms : List ℕ) → AreApart ms → is_among ms FREE ≡ false → IsDistinct nat_eq ms
unfolding IsDistinct
all_distinct [] a h = tt
all_distinct (m ∷ ms) a h =
    let p = or_parts (m == FREE) (is_among ms FREE) h in
    IsDistinct-cons nat_eq m ms (none_alike ms m (a.0 p.0)) (all_distinct ms a.1 p.1)

pub overfull : (numbers now : List ℕ) (e : ℕ) → length numbers ≤ 64 → length now ≡ 64 → AreApart now
    → ((n : ℕ) → (n == FREE) ≡ false → is_among now n ≡ true → is_among numbers n ≡ true)
    → is_among numbers e ≡ true → is_among now e ≡ false → is_among now FREE ≡ false → ⊥
overfull numbers now e few long a within has not_there full =
    let distinct = IsDistinct-cons nat_eq e now (none_alike now e not_there) (all_distinct now a full) in
    let more = length-le_from_is_member nat_eq_equiv (e ∷ now) numbers distinct
    (λ q m. sym (member_among numbers q) ∙ by q (member_among (e ∷ now) q ∙ m)) in
    omega arith
  where
    by : (q : ℕ) → is_among (e ∷ now) q ≡ true → is_among numbers q ≡ true
    by q m = elim (or_cases (e == q) (is_among now q) m) [
      | inl s ↦ subst (λ x. is_among numbers x ≡ true) (eqb-true e q s) has
      | inr s ↦ within q (false_from_ne_true _ (λ f. both_ways _ full (subst (λ x. is_among now x ≡ true) (eqb-true q FREE f) s))) s
    ]

module _ (last : ℕ) (numbers : List ℕ) (k d : ℕ) (old now : List ℕ) where
  -- a number more, which comes in
  hold-with : HoldsSo last numbers k old now → k < length numbers → d ≡ get_or numbers k 0
      → is_among now d ≡ false → last ≤ d → HoldsSo last numbers (k + 1) old (with_number d now)
  hold-with h lt at new late = record {
    long = long;
    apart = apart;
    from = λ i n e. elim (stands_with d now i n e) [ inl s ↦ h.from i n s | inr s ↦ inr (omega arith) ];
    within = within;
    held = λ few n m o. stays few n m (h.held few n m o);
    added = λ few n m l. elim (or_cases (is_among (take k numbers) n) (d == n) (split n m)) [
      | inl t ↦ stays few n (earlier n t) (h.added few n t l)
      | inr t ↦ subst (λ x. is_among (with_number d now) x ≡ true) (eqb-true d n t) (comes few)
    ];
  }
    where
      has : is_among numbers d ≡ true
      has = list_any_at (λ x. x == d) numbers k 0 lt (eq-eqb (get_or numbers k 0) d (sym at))

      long : length (with_number d now) ≡ 64
      long = length_with d now ∙ h.long

      apart : AreApart (with_number d now)
      apart = apart_with d now new h.apart

      within : (n : ℕ) → (n == FREE) ≡ false → is_among (with_number d now) n ≡ true → is_among numbers n ≡ true
      within n f e = elim (among_with d now n e) [ inl s ↦ subst (λ x. is_among numbers x ≡ true) (sym s) has | inr s ↦ h.within n f s ]

      comes : length numbers ≤ 64 → is_among (with_number d now) d ≡ true
      comes few = comes_in d now (true_from_ne_false _ (λ full. overfull numbers now d few h.long h.apart h.within has new full))

      stays : length numbers ≤ 64 → (n : ℕ) → is_among numbers n ≡ true → is_among now n ≡ true → is_among (with_number d now) n ≡ true
      stays few n m e = elim (cases_Bool (n == FREE)) [
        | inl f ↦ true_from_ne_false _ (λ gone. overfull numbers (with_number d now) n few long apart within m gone
            (subst (λ x. is_among (with_number d now) x ≡ false) (eqb-true n FREE f) gone))
        | inr f ↦ among_before d now n f e
      ]

      split : (n : ℕ) → is_among (take (k + 1) numbers) n ≡ true → (is_among (take k numbers) n || (d == n)) ≡ true
      split n m = ap (λ x. is_among (take k numbers) n || (x == n)) at ∙ sym (list_any_more (λ x. x == n) numbers k 0 lt) ∙ m

      earlier : (n : ℕ) → is_among (take k numbers) n ≡ true → is_among numbers n ≡ true
      earlier n t =
          ap (λ l. is_among l n) (sym (take-append-drop k numbers))
          ∙ list_any-append (λ x. x == n) (take k numbers) (drop k numbers)
          ∙ or_left (is_among (take k numbers) n) _ t

  -- a number more, which doesn't
  hold-without : HoldsSo last numbers k old now → k < length numbers → d ≡ get_or numbers k 0
      → (d < last) ⊎ (is_among now d ≡ true) → HoldsSo last numbers (k + 1) old now
  hold-without h lt at out = record {
    long = h.long;
    apart = h.apart;
    from = h.from;
    within = h.within;
    held = h.held;
    added = λ few n m l. elim (or_cases (is_among (take k numbers) n) (d == n) (split n m)) [
      | inl t ↦ h.added few n t l
      | inr t ↦ by n l (eqb-true d n t) out
    ];
  }
    where
      split : (n : ℕ) → is_among (take (k + 1) numbers) n ≡ true → (is_among (take k numbers) n || (d == n)) ≡ true
      split n m = ap (λ x. is_among (take k numbers) n || (x == n)) at ∙ sym (list_any_more (λ x. x == n) numbers k 0 lt) ∙ m

      by : (n : ℕ) → last ≤ n → d ≡ n → (d < last) ⊎ (is_among now d ≡ true) → is_among now n ≡ true
      by n l same (inl low) = absurd (omega arith)
      by n l same (inr there) = subst (λ x. is_among now x ≡ true) same there

  -- a number more
  pub hold-more : (next : List ℕ) → HoldsSo last numbers k old now → k < length numbers → d ≡ get_or numbers k 0
      → IsHeldLate last d now next → HoldsSo last numbers (k + 1) old next
  hold-more next h lt at (inl (late, new, is)) = subst (HoldsSo last numbers (k + 1) old) (sym is) (hold-with h lt at new late)
  hold-more next h lt at (inr (out, is)) = subst (HoldsSo last numbers (k + 1) old) (sym is) (hold-without h lt at out)

module _ (last : ℕ) (numbers old now : List ℕ) where
  kept_stands : (ms : List ℕ) (i n : ℕ) → last ≤ FREE → slice_get (map (kept_of numbers) ms) i ≡ Some n → (slice_get ms i ≡ Some n) ⊎ (last ≤ n)
  kept_stands [] i n le e = inl e
  kept_stands (m ∷ ms) zero n le e = by (is_among numbers m) e
    where
      by : (b : Bool) → Some (cond b m FREE) ≡ Some n → (Some m ≡ Some n) ⊎ (last ≤ n)
      by true g = inl g
      by false g = let same : FREE ≡ n = cc in inr (omega arith)
  kept_stands (m ∷ ms) (suc i) n le e = kept_stands ms i n le e

  kept_within : (ms : List ℕ) (n : ℕ) → (n == FREE) ≡ false → is_among (map (kept_of numbers) ms) n ≡ true → is_among numbers n ≡ true
  kept_within [] n f e = absurd (both_ways false refl e)
  kept_within (m ∷ ms) n f e = by (is_among numbers m) refl (kept_within ms n f) e
    where
      by : (b : Bool) → is_among numbers m ≡ b → (is_among (map (kept_of numbers) ms) n ≡ true → is_among numbers n ≡ true)
          → (cond b m FREE == n || is_among (map (kept_of numbers) ms) n) ≡ true → is_among numbers n ≡ true
      by true t r g = elim (or_cases (m == n) (is_among (map (kept_of numbers) ms) n) g) [
        | inl s ↦ subst (λ x. is_among numbers x ≡ true) (eqb-true m n s) t
        | inr s ↦ r s
      ]
      by false t r g = elim (or_cases (FREE == n) (is_among (map (kept_of numbers) ms) n) g) [
        | inl s ↦ absurd (both_ways (n == FREE) f (eq-eqb n FREE (sym (eqb-true FREE n s))))
        | inr s ↦ r s
      ]

  kept_held : (ms : List ℕ) (n : ℕ) → is_among numbers n ≡ true → is_among ms n ≡ true → is_among (map (kept_of numbers) ms) n ≡ true
  kept_held [] n m e = e
  kept_held (x ∷ ms) n m e = elim (or_cases (x == n) (is_among ms n) e) [
    | inl s ↦ or_left (kept_of numbers x == n) (is_among (map (kept_of numbers) ms) n) (here (eqb-true x n s))
    | inr s ↦ or_right (kept_of numbers x == n) _ (kept_held ms n m s)
  ]
    where
      here : x ≡ n → (kept_of numbers x == n) ≡ true
      here same = eq-eqb (kept_of numbers x) n
          (cond-true (is_among numbers x) x FREE (subst (λ y. is_among numbers y ≡ true) (sym same) m) ∙ same)

  -- at first those are held that were and are among the numbers
  pub hold-first : last ≤ FREE → AreApart now → length now ≡ 64 → AreHeldOf numbers old now → HoldsSo last numbers 0 old now
  hold-first le apart long is = record {
    long = long;
    apart = apart;
    from = λ i n e. kept_stands old i n le (ap (λ l. slice_get l i) (sym is) ∙ e);
    within = λ n f e. kept_within old n f (ap (λ l. is_among l n) (sym is) ∙ e);
    held = λ few n m o. ap (λ l. is_among l n) is ∙ kept_held old n m o;
    added = λ few n m l. absurd (both_ways false refl m);
  }

-- ---- the bound of what is held

-- what is left is below a bound of the given numbers
pub bounded_kept : (numbers old : List ℕ) (bound : ℕ) → AreBounded bound numbers → AreBounded bound (map (kept_of numbers) old)
bounded_kept numbers old bound below n f here = below n f (kept_within 0 numbers old old old n f here)

-- and so is one more, with a bound above it
pub bounded_with : (now : List ℕ) (d bound more : ℕ) → AreBounded bound now → d ≤ FREE → bound ≤ more → min (d + 1) FREE ≤ more
    → AreBounded more (with_number d now)
bounded_with now d bound more below within le above n f here = elim (among_with d now n here) [
  | inl s ↦ raised_above d more n f within above (sym s)
  | inr s ↦ (let old = below n f s in omega arith)
]

-- ---- the bits of a summary that is raised

module _ (held : List ℕ) (last number hidden newest : ℕ) where
  both_tests : (n : ℕ) → n < number → (nat_le last n && nat_lt n number) ≡ nat_le last n
  both_tests n lt = grind (arith, nat_tests)

  -- those of the numbers between are set
  pub set-between : AreBits (λ n. nat_le last n && nat_lt n number) held newest → (i n : ℕ) → slice_get held i ≡ Some n → n < number
      → bit_at (bit_or hidden newest) i ≡ cond (nat_le last n) 1 (bit_at hidden i)
  set-between bits i n at lt =
      let new = bits i n at ∙ ap bit_of (both_tests n lt) in
      bit_at_or hidden newest i ∙ ap (max (bit_at hidden i)) new ∙ by (nat_le last n)
    where
      by : (b : Bool) → max (bit_at hidden i) (bit_of b) ≡ cond b 1 (bit_at hidden i)
      by true = let small = bit_at-lt hidden i in omega arith
      by false = omega arith

  -- those of the numbers between are cleared
  pub clear-between : AreBits (λ n. nat_le last n && nat_lt n number) held newest → newest < 2 ^ 64 → length held ≡ 64
      → (i n : ℕ) → slice_get held i ≡ Some n → n < number
      → bit_at (bit_and hidden (2 ^ 64 - 1 - newest)) i ≡ cond (nat_le last n) 0 (bit_at hidden i)
  clear-between bits small long i n at lt =
      let new = bits i n at ∙ ap bit_of (both_tests n lt) in
      let within = slice_get_within held i n at in
      bit_at_and hidden (bit_not w64 newest) i
      ∙ ap (min (bit_at hidden i)) (bit_at_not w64 newest i small (omega arith) ∙ ap (λ b. 1 - b) new) ∙ by (nat_le last n)
    where
      by : (b : Bool) → min (bit_at hidden i) (1 - bit_of b) ≡ cond b 0 (bit_at hidden i)
      by true = omega arith
      by false = let few = bit_at-lt hidden i in omega arith

-- ---- a set of numbers by their places

module _ (ns : List ℕ) where
  -- at first each place is free
  pub none-placed : (k : ℕ) → AreAmong ns (replicate k FREE)
  none-placed k i n at = inl (free_all k 0 i n (omega arith) at)

  -- then each number comes into a place
  pub one-placed : (places : List ℕ) (k d i : ℕ) → AreAmong ns places → i < length ns → AreAmong ns (set places k (get_or ns i d))
  one-placed places k d i among less j n at = by (cases_eq j k)
    where
      within : j < length places
      within = subst (λ l. j < l) (length-set places k (get_or ns i d)) (slice_get_within (set places k (get_or ns i d)) j n at)

      is : get_or (set places k (get_or ns i d)) j 0 ≡ n
      is = get_or_from_slice_get (set places k (get_or ns i d)) j n 0 at

      by : (j ≡ k) ⊎ (j ≡ k → ⊥) → (n ≡ FREE) ⊎ (is_among ns n ≡ true)
      by (inl same) =
          let here : get_or ns i d ≡ n =
          sym (get_or-set_same places k (get_or ns i d) 0 (subst (λ m. m < length places) same within))
          ∙ ap (λ m. get_or (set places k (get_or ns i d)) m 0) (sym same) ∙ is in
          inr (list_any_at (λ m. m == n) ns i d less (eq-eqb (get_or ns i d) n here))
      by (inr differs) =
          among j n (slice_get-get_or places j 0 within
          ∙ ap (λ m. Some m) (sym (get_or-set_other places k j (get_or ns i d) 0 differs) ∙ is))

-- ---- the numbers that were given last

none_free : (k n : ℕ) → (n == FREE) ≡ false → is_among (replicate k FREE) n ≡ true → ⊥
none_free zero n f h = both_ways false refl h
none_free (suc k) n f h = elim (or_cases (FREE == n) (is_among (replicate k FREE) n) h) [
  | inl e ↦ both_ways (n == FREE) f (eq-eqb n FREE (sym (eqb-true FREE n e)))
  | inr e ↦ none_free k n f e
]

pub none_asked : (k : ℕ) → AreHeldFor 0 [] (replicate k FREE)
none_asked k = record { among = λ n f h. absurd (none_free k n f h); there = λ n h. absurd (both_ways false refl h) }

-- those from a later number on are held, too
pub asked_later : (since last : ℕ) (asked ns : List ℕ) → since ≤ last → AreHeldFor since asked ns → AreHeldFor last asked ns
asked_later since last asked ns le h = record { among = h.among; there = λ n m l. h.there n m (omega (arith, le, l)) }

-- once it is done for all
pub asked_so : (last : ℕ) (numbers : List ℕ) (k : ℕ) (old now : List ℕ) → HoldsSo last numbers k old now → length numbers ≤ k → length numbers ≤ 64
    → AreHeldFor last numbers now
asked_so last numbers k old now h all few = record {
  among = h.within;
  there = λ n m l. h.added few n (subst (λ ns. is_among ns n ≡ true) (sym (take_all k numbers all)) m) l;
}
