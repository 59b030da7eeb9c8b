-- How far runs are merged.
use Rattle.std.proofs.Common.{◌≡◌, ◌+◌, ◌≤◌, ◌<◌, ℕ, zero, suc, Bool, true, false, List, [], ◌∷◌, ◌++◌, length}
use Rattle.std.proofs.Common.{get_or, take, drop, map, refl, sym, ap, subst, ◌∙◌, arith}
use Rattle.std.proofs.Math.ListN.{set}
use Rattle.std.proofs.Math.Seq.{drop-cons, drop-nil}
use Rattle.std.proofs.lemmas.Bool.Decides.{nat_tests}
use Rattle.std.proofs.lemmas.List.{append_assoc, at_drop_all, drop-drop, drop-map}
use Rattle.std.proofs.lemmas.List.{get_or_at, get_or_read, length-map}
use Rattle.std.proofs.lemmas.List.{length-take-le, map-append, nil_from_length, set_at, take-append-drop, take_more}
use Rattle.std.specs.List.{remove}
use Rattle.std.specs.Prelude.{◌||◌}
use Rattle.merging_runs.specs.RunSizes.{AreNoLonger, RunSize, left_above, has_alike, joined, last_after, IsBegun}
use Rattle.merging_runs.specs.RunSizes.{is_finished, lasts_of, whole_of}

-- ---- two runs beside one another

-- of a finished run nothing is left to move
pub finished_left : (r : RunSize) → is_finished r ≡ true → r.left ≡ 0
finished_left r is = grind (arith, nat_tests)

-- two looks at one place
pub same_run : {R : Type 0} (rs : List R) (i : ℕ) (a b : R) → i < length rs → a ≡ get_or rs i a → b ≡ get_or rs i b → a ≡ b
same_run rs i a b lt h g = get_or_read rs i a lt h b ∙ sym g

-- `is` stands in the place of `first` and `second`, behind these earlier runs
pub record IsOneOfTwo {R : Type 0} (earlier rs new : List R) (first second is : R) : Type 0 where
  pub later : List R
  pub was : rs ≡ earlier ++ (first ∷ second ∷ later)
  pub now : new ≡ earlier ++ (is ∷ later)

pub one_of_two : {R : Type 0} (rs left : List R) (i j : ℕ) (a first second is : R) → i ≡ suc j → i < length rs → a ≡ get_or rs j a → left ≡ remove rs i
    → second ≡ get_or rs i second → first ≡ get_or left j first
    → (first ≡ a) × IsOneOfTwo (take j rs) rs (set left j is) first second is
one_of_two {R} rs left i j a first second is next lt a_is without second_is first_is =
    let front = take j rs in
    let behind = drop (suc i) rs in
    let more : i ≡ j + 1 = omega arith in
    let taken : take i rs ≡ front ++ a ∷ [] = ap (λ n. take n rs) more ∙ take_more rs j a (omega arith) ∙ ap (λ r. front ++ r ∷ []) (sym a_is) in
    let rest : drop i rs ≡ second ∷ behind = drop-cons rs i second lt ∙ ap (λ r. r ∷ behind) (sym second_is) in
    let out : left ≡ front ++ a ∷ behind = without ∙ ap (λ l. l ++ behind) taken ∙ append_assoc front (a ∷ []) behind in
    let at : length front ≡ j = length-take-le j rs (omega arith) in
    let same : first ≡ a = first_is ∙ ap (λ (l : List R). get_or l j first) out ∙ get_or_at front a behind first j at in (
      same,
      record {
        later = behind;
        was = sym (take-append-drop i rs) ∙ (λ k. taken k ++ rest k) ∙ append_assoc front (a ∷ []) (second ∷ behind)
            ∙ ap (λ r. front ++ r ∷ second ∷ behind) (sym same);
        now = ap (λ (l : List R). set l j is) out ∙ set_at front a behind is j at;
      },
    )

-- they are alike
pub begun : {R : Type 0} (size : R → RunSize) (alike : ℕ → RunSize → RunSize → Bool) (earlier rs new : List R) (first second is : R)
    → IsOneOfTwo earlier rs new first second is → alike (last_after 0 (map size earlier)) (size first) (size second) ≡ true
    → size is ≡ joined (size first) (size second)
    → IsBegun alike (map size rs) (map size new)
begun size alike earlier rs new first second is at are whole = record {
  earlier = map size earlier;
  first = size first;
  second = size second;
  later = map size at.later;
  are = are;
  was = ap (map size) at.was ∙ map-append size earlier (first ∷ second ∷ at.later);
  is = ap (map size) at.now ∙ map-append size earlier (is ∷ at.later) ∙ ap (λ s. map size earlier ++ s ∷ map size at.later) whole;
}

-- they aren't alike
pub unlike_at : {R : Type 0} (size : R → RunSize) (alike : ℕ → RunSize → RunSize → Bool) (before : ℕ) (rs : List R) (i j : ℕ) (first second : R) → i ≡ suc j
    → i < length rs → first ≡ get_or rs j first → second ≡ get_or rs i second
    → alike before (size first) (size second) ≡ false → has_alike alike before (take 2 (drop j (map size rs))) ≡ false
unlike_at {R} size alike before rs i j first second next lt first_is second_is unlike =
    let one = drop-cons rs j first (omega arith) in
    let two = drop-cons rs (suc j) second (omega arith) in
    let at = ap (λ (l : List R). has_alike alike before (take 2 (map size l))) (one ∙ ap (λ l. get_or rs j first ∷ l) two) in
    ap (λ l. has_alike alike before (take 2 l)) (drop-map size j rs) ∙ at
    ∙ (λ k. alike before (size (sym first_is k)) (size (sym (rw next at second_is) k)) || (false || false)) ∙ ap (λ b. b || (false || false)) unlike

-- the last number before a place: that of the run before it
pub last_taken : {R : Type 0} (size : R → RunSize) (rs : List R) (i : ℕ) (a : R) (n : ℕ) → i < length rs → a ≡ get_or rs i a
    → last_after n (take (suc i) (map size rs)) ≡ (size a).last
last_taken size [] i a n lt at = absurd (omega arith)
last_taken size (q ∷ rs) zero a n lt at = ap (λ r. (size r).last) (sym at)
last_taken size (q ∷ rs) (suc i) a n lt at = last_taken size rs i a (size q).last (omega arith) at

-- that before the next place
last_next : (rs : List RunSize) (j n : ℕ) → last_after n (take (suc j) rs) ≡ last_after (last_after n (take j rs)) (take 1 (drop j rs))
last_next [] zero n = refl
last_next [] (suc j) n = refl
last_next (q ∷ rs) zero n = refl
last_next (q ∷ rs) (suc j) n = last_next rs j q.last

-- nor are two of those behind them
pub unlike_from : (alike : ℕ → RunSize → RunSize → Bool) (rs : List RunSize) (i j : ℕ) → i ≡ suc j
    → has_alike alike (last_after 0 (take j rs)) (take 2 (drop j rs)) ≡ false
    → has_alike alike (last_after 0 (take i rs)) (drop i rs) ≡ false → has_alike alike (last_after 0 (take j rs)) (drop j rs) ≡ false
unlike_from alike rs i j next here behind =
    let more : j + 1 ≡ i = omega arith in
    let before : last_after (last_after 0 (take j rs)) (take 1 (drop j rs)) ≡ last_after 0 (take i rs) =
    sym (last_next rs j 0) ∙ ap (λ n. last_after 0 (take n rs)) (sym next) in
    by (last_after 0 (take j rs)) (drop j rs) here ((λ k. has_alike alike (before k) ((drop-drop 1 j rs ∙ ap (λ n. drop n rs) more) k)) ∙ behind)
  where
    by : (b : ℕ) (l : List RunSize) → has_alike alike b (take 2 l) ≡ false → has_alike alike (last_after b (take 1 l)) (drop 1 l) ≡ false
        → has_alike alike b l ≡ false
    by b [] h g = refl
    by b (q ∷ []) h g = refl
    by b (q ∷ p ∷ l) h g = grind arith

-- of one run there are no two
pub none_alike : {R : Type 0} (size : R → RunSize) (alike : ℕ → RunSize → RunSize → Bool) (before : ℕ) (rs : List R) (i : ℕ) → length rs ≤ i + 1
    → has_alike alike before (drop i (map size rs)) ≡ false
none_alike size alike before [] i le = ap (has_alike alike before) (drop-nil i)
none_alike size alike before (q ∷ rs) zero le = ap (λ l. has_alike alike before (size q ∷ map size l)) (nil_from_length rs (omega arith))
none_alike size alike before (q ∷ rs) (suc i) le = none_alike size alike before rs i (omega arith)

-- ---- what is left to move

-- another in the place of a run
pub left_changed : {R : Type 0} (size : R → RunSize) (o : ℕ) (rs : List R) (i : ℕ) (was is : R) → i < length rs → was ≡ get_or rs i was → o < (size was).last
    → (size is).last ≡ (size was).last
    → left_above o (map size (set rs i is)) + (size was).left ≡ left_above o (map size rs) + (size is).left
left_changed size o [] i was is lt at above same = absurd (omega arith)
left_changed size o (q ∷ rs) zero was is lt at above same = grind (arith, nat_tests, ap size at)
left_changed size o (q ∷ rs) (suc i) was is lt at above same = let rest = left_changed size o rs i was is (omega arith) at above same in omega (arith, rest)

-- a number of the run's size that stays
pub number_kept : {R : Type 0} (size : R → RunSize) (number : RunSize → ℕ) (rs : List R) (i : ℕ) (was is : R) → i < length rs → was ≡ get_or rs i was
    → number (size is) ≡ number (size was) → map number (map size (set rs i is)) ≡ map number (map size rs)
number_kept size number [] i was is lt at same = refl
number_kept size number (q ∷ rs) zero was is lt at same = ap (λ n. n ∷ map number (map size rs)) (same ∙ ap (λ r. number (size r)) at)
number_kept size number (q ∷ rs) (suc i) was is lt at same = ap (λ l. number (size q) ∷ l) (number_kept size number rs i was is (omega arith) at same)

pub lasts_changed : {R : Type 0} (size : R → RunSize) (rs : List R) (i : ℕ) (was is : R) → i < length rs → was ≡ get_or rs i was
    → (size is).last ≡ (size was).last → lasts_of (map size (set rs i is)) ≡ lasts_of (map size rs)
lasts_changed size rs i was is lt at same = number_kept size (λ r. r.last) rs i was is lt at same

-- ---- how many elements runs have

pub as_long : (rs : List RunSize) → AreNoLonger rs rs
as_long [] = tt
as_long (r ∷ rs) = (omega arith, as_long rs)

pub no_longer_through : (rs qs ps : List RunSize) → AreNoLonger rs qs → AreNoLonger qs ps → AreNoLonger rs ps
no_longer_through [] [] [] h g = tt
no_longer_through (r ∷ rs) (q ∷ qs) (p ∷ ps) h g =
    let first = h.0 in
    let second = g.0 in
    (omega (arith, first, second), no_longer_through rs qs ps h.1 g.1)
no_longer_through [] [] (p ∷ ps) h g = absurd g
no_longer_through [] (q ∷ qs) ps h g = absurd h
no_longer_through (r ∷ rs) [] ps h g = absurd h
no_longer_through (r ∷ rs) (q ∷ qs) [] h g = absurd g

-- another in the place of a run
pub no_longer_changed : {R : Type 0} (size : R → RunSize) (rs : List R) (i : ℕ) (was is : R) → i < length rs → was ≡ get_or rs i was
    → whole_of (size is) ≤ whole_of (size was) → AreNoLonger (map size (set rs i is)) (map size rs)
no_longer_changed size [] i was is lt at le = absurd (omega arith)
no_longer_changed size (q ∷ rs) zero was is lt at le = (rw (sym at) le, as_long (map size rs))
no_longer_changed size (q ∷ rs) (suc i) was is lt at le = (omega arith, no_longer_changed size rs i was is (omega arith) at le)

-- nothing is left in a run, nor in those behind it
pub none_left : {R : Type 0} (size : R → RunSize) (o : ℕ) (rs : List R) (i j : ℕ) (is : R) → j ≡ suc i → (size is).left ≡ 0
    → left_above o (drop j (map size rs)) ≡ 0 → left_above o (drop i (map size (set rs i is))) ≡ 0
none_left {R} size o rs i j is next none behind = by rs i (rw next at behind)
  where
    by : (rs : List R) (i : ℕ) → left_above o (drop (suc i) (map size rs)) ≡ 0 → left_above o (drop i (map size (set rs i is))) ≡ 0
    by [] i h = ap (left_above o) (drop-nil i)
    by (q ∷ rs) zero h = grind (arith, none)
    by (q ∷ rs) (suc i) h = by rs i h

-- a run without numbers above that one is passed over
pub passed_left : {R : Type 0} (size : R → RunSize) (o : ℕ) (rs : List R) (i j : ℕ) (r : R) → j ≡ suc i → r ≡ get_or rs i r → (size r).last ≤ o
    → left_above o (drop j (map size rs)) ≡ 0 → left_above o (drop i (map size rs)) ≡ 0
passed_left {R} size o rs i j r next at old behind = by rs i at (rw next at behind)
  where
    by : (rs : List R) (i : ℕ) → r ≡ get_or rs i r → left_above o (drop (suc i) (map size rs)) ≡ 0 → left_above o (drop i (map size rs)) ≡ 0
    by [] i at h = ap (left_above o) (drop-nil i)
    by (q ∷ rs) zero at h = grind (arith, nat_tests, ap size at)
    by (q ∷ rs) (suc i) at h = by rs i at h

pub past_left : {R : Type 0} (size : R → RunSize) (o : ℕ) (rs : List R) (i : ℕ) → length rs ≤ i → left_above o (drop i (map size rs)) ≡ 0
past_left size o rs i le = at_drop_all (left_above o) (map size rs) i (omega (arith, length-map rs size))

-- such a run is taken out
pub left_without : {R : Type 0} (size : R → RunSize) (o : ℕ) (rs : List R) (i : ℕ) (r : R) → i < length rs → r ≡ get_or rs i r → (size r).last ≤ o
    → left_above o (map size (remove rs i)) ≡ left_above o (map size rs)
left_without size o [] i r lt at old = absurd (omega arith)
left_without size o (q ∷ rs) zero r lt at old = grind (arith, nat_tests, ap size at)
left_without size o (q ∷ rs) (suc i) r lt at old = let rest = left_without size o rs i r (omega arith) at old in omega (arith, rest)

-- ---- what runs answer

module _ {R : Type 0} (agree : List R → List R → Type 0) (between : (front xs ys behind : List R) → agree xs ys
    → agree (front ++ (xs ++ behind)) (front ++ (ys ++ behind))) where
  -- those at one place of a list, and others in their place
  placed : (front xs ys behind rs new : List R) → rs ≡ front ++ (ys ++ behind) → new ≡ front ++ (xs ++ behind) → agree xs ys → agree new rs
  placed front xs ys behind rs new was now same =
      subst (λ (l : List R). agree l rs) (sym now) (subst (λ (l : List R). agree (front ++ (xs ++ behind)) l) (sym was) (between front xs ys behind same))

  pub one_agrees : (earlier rs new : List R) (first second is : R) → IsOneOfTwo earlier rs new first second is → agree (is ∷ []) (first ∷ second ∷ [])
      → agree new rs
  one_agrees earlier rs new first second is at = placed earlier (is ∷ []) (first ∷ second ∷ []) at.later rs new at.was at.now

  whole : (rs : List R) (i : ℕ) (was : R) → i < length rs → was ≡ get_or rs i was → rs ≡ take i rs ++ (was ∷ drop (suc i) rs)
  whole rs i was lt at = sym (take-append-drop i rs) ∙ ap (λ l. take i rs ++ l) (drop-cons rs i was lt ∙ ap (λ r. r ∷ drop (suc i) rs) (sym at))

  -- another in the place of a run
  pub other_agrees : (rs : List R) (i : ℕ) (was is : R) → i < length rs → was ≡ get_or rs i was → agree (is ∷ []) (was ∷ []) → agree (set rs i is) rs
  other_agrees rs i was is lt at =
      let all = whole rs i was lt at in
      placed (take i rs) (is ∷ []) (was ∷ []) (drop (suc i) rs) rs (set rs i is) all
      (ap (λ (l : List R). set l i is) all ∙ set_at (take i rs) was (drop (suc i) rs) is i (length-take-le i rs (omega arith)))

  -- a run is taken out
  pub rest_agrees : (rs : List R) (i : ℕ) (r : R) → i < length rs → r ≡ get_or rs i r → agree [] (r ∷ []) → agree (remove rs i) rs
  rest_agrees rs i r lt at = placed (take i rs) [] (r ∷ []) (drop (suc i) rs) rs (remove rs i) (whole rs i r lt at) refl
