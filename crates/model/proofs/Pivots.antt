-- What the check of a commit may keep of a history: for each record, whether it has a read-write dependency to a concurrent one that
-- committed before it. It is fixed once the record has committed.
use Rattle.std.proofs.Common.{◌≡◌, ℕ, ◌<◌, ◌≤◌, Bool, true, false, not, cond, ◌&&◌, ◌||◌, List, [], ◌∷◌, ◌++◌, Some}
use Rattle.std.proofs.Common.{refl, sym, ap, ◌∙◌, arith, nat_lt, nat_le, ◌==◌, find, filter, le-ltb, lt-ltb, ltb-true}
use Rattle.std.proofs.Common.{eq-eqb}
use Rattle.std.proofs.lemmas.Bool.{both_ways, and_left, and_right, and_parts, or_cases, or_left, or_right}
use Rattle.std.proofs.lemmas.Bool.{not_from_true, cases_lt, false_from_ne_true}
use Rattle.std.proofs.lemmas.Bool.Decides.{nat_tests}
use Rattle.std.proofs.lemmas.Grind.{common_steps}
use Rattle.std.specs.List.{list_any, AllByRecursion}
use Rattle.model.proofs.Members.{In, each_in, Contains-from_in}
use Rattle.model.specs.Dependency.{is_concurrent, concurrent_read_write, makes_dangerous_pivot, is_dangerous_pivot}
use Rattle.model.specs.History.{Record}
use Rattle.model.specs.Verdict.{verdict, conflict_of, pivot_refusal, is_overwritten, HasNoDangerousPivot}
use Rattle.model.specs.declared.refusals.Refusal.TheVariants.{PivotSelf}

-- ---- tests of lists

pub or_false : (b : Bool) → (b || false) ≡ b
or_false b = grind (arith, common_steps)

pub any-append : {X : Type 0} (p : X → Bool) (xs : List X) (x : X) → list_any p (xs ++ x ∷ []) ≡ (list_any p xs || p x)
any-append p xs x = grind (arith, common_steps, or_false)

pub any-and_left : {X : Type 0} (b : Bool) (p : X → Bool) (xs : List X) → list_any (λ x. b && p x) xs ≡ (b && list_any p xs)
any-and_left false p (x ∷ xs) = any-and_left false p xs
any-and_left b p xs = refl

pub any_alike : {X : Type 0} (p q : X → Bool) → ((x : X) → p x ≡ q x) → (xs : List X) → list_any p xs ≡ list_any q xs
any_alike p q e xs = grind (arith, common_steps)

pub any_same : {X : Type 0} (p q : X → Bool) (xs : List X) → AllByRecursion (λ x. p x ≡ q x) xs → list_any p xs ≡ list_any q xs
any_same p q [] h = refl
any_same p q (x ∷ xs) h = λ i. h.0 i || any_same p q xs h.1 i

pub any_filter : {X : Type 0} (p q : X → Bool) → ((x : X) → p x ≡ true → q x ≡ true) → (xs : List X) → list_any p (filter q xs) ≡ list_any p xs
any_filter p q f [] = refl
any_filter p q f (x ∷ xs) = grind (arith, common_steps, false_from_ne_true, both_ways, any_filter p q f xs)

find_filter : {X : Type 0} (p q : X → Bool) → ((x : X) → p x ≡ true → q x ≡ true) → (xs : List X) → find p (filter q xs) ≡ find p xs
find_filter p q f [] = refl
find_filter p q f (x ∷ xs) = grind (arith, common_steps, false_from_ne_true, both_ways, find_filter p q f xs)

pub find_alike : {X : Type 0} (p q : X → Bool) → ((x : X) → p x ≡ q x) → (xs : List X) → find p xs ≡ find q xs
find_alike p q e xs = grind (arith, common_steps)

pub find_same : {X : Type 0} (p q : X → Bool) (xs : List X) → AllByRecursion (λ x. p x ≡ q x) xs → find p xs ≡ find q xs
find_same p q [] h = refl
find_same p q (x ∷ xs) h = λ i. cond (h.0 i) (Some x) (find_same p q xs h.1 i)

-- ---- the dangerous pivots, once one more transaction has committed

-- the flag of a record: whether it has a dependency to a concurrent one that committed before it
abbrev pub has_earlier_target : List Record → Record → Bool
has_earlier_target history p = list_any (λ y. concurrent_read_write p y && nat_lt y.commit p.commit) history

-- whether one of the records has a dependency to t, and t has one to a record that committed no later
abbrev pub stands_between : List Record → Record → Bool
stands_between history t = list_any (λ x. concurrent_read_write x t && list_any (λ y. concurrent_read_write t y && nat_le y.commit x.commit) history) history

pub no_read_write_itself : (t : Record) → concurrent_read_write t t ≡ false
no_read_write_itself t =
    and_left _ (is_concurrent t t) (and_right _ (not (t.commit == t.commit)) (not_from_true (t.commit == t.commit) (eq-eqb t.commit t.commit refl)))

-- the flag stays
pub earlier_target-push : (history : List Record) (t p : Record) → p.commit ≤ t.commit → has_earlier_target (history ++ t ∷ []) p ≡ has_earlier_target history p
earlier_target-push history t p le = grind (arith, common_steps, any-append, and_right, le-ltb, or_false)

-- whether x stands before t, and has committed no earlier than one behind t
abbrev is_over : List Record → Record → Record → Bool
is_over history t x = concurrent_read_write x t && list_any (λ y. concurrent_read_write t y && nat_le y.commit x.commit) history

module _ (history : List Record) (t : Record) (first : (r : Record) → In r history → r.commit < t.commit) where
  -- the flag of the one that commits last
  pub own_earlier_target : has_earlier_target (history ++ t ∷ []) t ≡ list_any (λ y. concurrent_read_write t y) history
  own_earlier_target =
      earlier_target-push history t t (omega arith)
      ∙ any_same _ (λ y. concurrent_read_write t y) history (each_in _ history (λ y y_in. let less = first y y_in in grind (arith, nat_tests)))

  -- the last is no target of a dangerous pivot, but it may be the one before it
  pub pivot-push : (p : Record) → In p history
      → is_dangerous_pivot (history ++ t ∷ []) p ≡ (is_dangerous_pivot history p || (concurrent_read_write t p && has_earlier_target history p))
  pivot-push p p_in =
      any_same _ (λ x. list_any (λ y. makes_dangerous_pivot x p y) history) (history ++ t ∷ []) (each_in _ (history ++ t ∷ []) (λ x _. targets x))
      ∙ any-append (λ x. list_any (λ y. makes_dangerous_pivot x p y) history) history t
      ∙ ap (λ b. is_dangerous_pivot history p || b) last_before
    where
      targets : (x : Record) → list_any (λ y. makes_dangerous_pivot x p y) (history ++ t ∷ []) ≡ list_any (λ y. makes_dangerous_pivot x p y) history
      targets x = let less = first p p_in in grind (arith, nat_tests, any-append (λ y. makes_dangerous_pivot x p y) history t)

      last_before : list_any (λ y. makes_dangerous_pivot t p y) history ≡ (concurrent_read_write t p && has_earlier_target history p)
      last_before =
          any_same _ (λ y. concurrent_read_write t p
          && (concurrent_read_write p y && nat_lt y.commit p.commit)) history
          (each_in _ history (λ y y_in. let less = first y y_in in grind (arith, nat_tests)))
          ∙ any-and_left (concurrent_read_write t p) (λ y. concurrent_read_write p y && nat_lt y.commit p.commit) history

  -- whether the last is a dangerous pivot itself
  pub own_pivot : is_dangerous_pivot (history ++ t ∷ []) t ≡ stands_between history t
  own_pivot =
      any_same _ (is_over history t) (history ++ t ∷ []) (each_in _ (history ++ t ∷ []) (λ x _. targets x))
      ∙ any-append (is_over history t) history t
      ∙ ap (λ b. stands_between history t || b) (and_left (concurrent_read_write t t) _ (no_read_write_itself t))
      ∙ or_false (stands_between history t)
    where
      targets : (x : Record) → list_any (λ y. makes_dangerous_pivot x t y) (history ++ t ∷ []) ≡ is_over history t x
      targets x =
          grind (arith, common_steps, any-append (λ y. makes_dangerous_pivot x t y) history t, no_read_write_itself t)
          ∙ any_same (λ y. makes_dangerous_pivot x t y) (λ y. concurrent_read_write x t && (concurrent_read_write t y && nat_le y.commit x.commit)) history
          (each_in _ history (λ y y_in. let less = first y y_in in grind (arith, nat_tests)))
          ∙ any-and_left (concurrent_read_write x t) (λ y. concurrent_read_write t y && nat_le y.commit x.commit) history

-- ---- the verdict over the records that may be kept

-- the records with a commit number above the oldest begin number that is open
abbrev pub kept_above : ℕ → List Record → List Record
kept_above oldest history = filter (λ r. nat_lt oldest r.commit) history

-- a dependency that t has leads to or from a record that is kept
pub read_write_kept : (oldest : ℕ) (t p : Record) → oldest ≤ t.begin → (concurrent_read_write t p || concurrent_read_write p t) ≡ true
    → nat_lt oldest p.commit ≡ true
read_write_kept oldest t p low h = grind (arith, common_steps, cases_lt, lt-ltb, or_cases, both_ways)

-- the verdict needs the kept records alone, with their flag over the whole history
pub verdict_by_kept : (history : List Record) (t : Record) (oldest : ℕ) → oldest ≤ t.begin → ((r : Record) → In r history → r.commit < t.commit)
    → HasNoDangerousPivot history →
    verdict history t ≡ conflict_of (find (λ w. is_overwritten (kept_above oldest history) t w.0) t.writes)
    (cond (stands_between (kept_above oldest history) t) (Some PivotSelf)
    (pivot_refusal (find (λ p. concurrent_read_write t p && has_earlier_target history p) (kept_above oldest history))))
unfolding verdict
verdict_by_kept history t oldest low first no_pivot = λ i. conflict_of (overwritten i) (cond (self i) (Some PivotSelf) (pivot_refusal (others i)))
  where
    overwritten : find (λ w. is_overwritten history t w.0) t.writes ≡ find (λ w. is_overwritten (kept_above oldest history) t w.0) t.writes
    overwritten = grind (arith, common_steps, find_alike, any_filter, ltb-true, and_parts, lt-ltb)

    self : is_dangerous_pivot (history ++ t ∷ []) t ≡ stands_between (kept_above oldest history) t
    self = own_pivot history t first
        ∙ sym (any_filter (is_over history t) (λ r. nat_lt oldest r.commit)
        (λ x h. read_write_kept oldest t x low (or_right (concurrent_read_write t x) _ (and_parts (concurrent_read_write x t) _ h).0)) history)
        ∙ any_same (is_over history t) (is_over (kept_above oldest history) t) (kept_above oldest history) (each_in _ (kept_above oldest history)
        (λ x _. ap (λ b. concurrent_read_write x t
        && b) (sym (any_filter (λ y. concurrent_read_write t y
        && nat_le y.commit x.commit) (λ r. nat_lt oldest r.commit)
        (λ y h. read_write_kept oldest t y low (or_left (concurrent_read_write t y) _ (and_parts (concurrent_read_write t y) _ h).0)) history))))

    others : find (is_dangerous_pivot (history ++ t ∷ [])) history
        ≡ find (λ p. concurrent_read_write t p && has_earlier_target history p) (kept_above oldest history)
    others =
        find_same _ (λ p. concurrent_read_write t p && has_earlier_target history p) history
        (each_in _ history (λ p p_in. pivot-push history t first p p_in
        ∙ ap (λ b. b || (concurrent_read_write t p && has_earlier_target history p)) (no_pivot p (Contains-from_in history p p_in))))
        ∙ sym (find_filter (λ p. concurrent_read_write t p
        && has_earlier_target history p) (λ r. nat_lt oldest r.commit)
        (λ p h. read_write_kept oldest t p low (or_left (concurrent_read_write t p) _ (and_parts (concurrent_read_write t p) _ h).0)) history)
