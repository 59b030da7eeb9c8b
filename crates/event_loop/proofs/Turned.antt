-- One connection that lingers after another.
use Rattle.std.proofs.Common.{◌≡◌, ◌<◌, ◌+◌, ◌||◌, inl, inr, ℕ, suc, Bool, false, List, [], ◌∷◌, ◌++◌, length}
use Rattle.std.proofs.Common.{append_assoc, refl, sym, ap, subst, ◌∙◌, arith, append-nil}
use Rattle.std.proofs.Math.Bool.{or-false, or_assoc}
use Rattle.event_loop.specs.Lingerings.{AllTurned, FirstTurned, Lingerers, is_all}
use Rattle.event_loop.specs.declared.lingering.Lingerer.{Lingerer}

module _ (moment : ℕ) where
  -- with what becomes of those that come, all are turned
  abbrev Turns : List Lingerer → List Lingerer → Bool → List Lingerer → Type 0
  Turns old kept more others = (rest : List Lingerer) (of_rest : Bool) → AllTurned moment others rest of_rest
      → AllTurned moment old (kept ++ rest) (more || of_rest)

  -- the first so many were turned, and those that stay stand behind the others
  pub record TurnedSoFar (refused : ℕ) (old : List Lingerer) (count : ℕ) (new : Lingerers) : Type 0 where
    pub others : List Lingerer
    pub kept : List Lingerer
    pub count_is : count + length others ≡ length old
    pub now_are : new.all ≡ others ++ kept
    pub turned : Turns old kept new.has_more others
    pub refused_is : new.refused ≡ refused

  pub none_turned : (old : Lingerers) → old.has_more ≡ false → TurnedSoFar old.refused old.all 0 old
  none_turned old none = record {
    others = old.all;
    kept = [];
    count_is = omega arith;
    now_are = sym (append-nil old.all);
    turned = λ rest of_rest turned. subst (λ (b : Bool). AllTurned moment old.all rest (b || of_rest)) (sym none) turned;
    refused_is = refl;
  }

  pub one_turned : (refused : ℕ) (old : List Lingerer) (mid new : Lingerers) (count : ℕ) → count < length old → TurnedSoFar refused old count mid
      → FirstTurned moment mid.all mid new → TurnedSoFar refused old (count + 1) new
  one_turned refused old mid new count some x first = by x.others x.count_is x.now_are x.turned
    where
      by : (others : List Lingerer) → count + length others ≡ length old → mid.all ≡ others ++ x.kept → Turns old x.kept mid.has_more others
          → TurnedSoFar refused old (count + 1) new
      by [] all are turned = absurd (let none : count + 0 ≡ length old = all in omega arith)
      by (l ∷ others) all are turned =
          let one : count + suc (length others) ≡ length old = all in
          elim (subst (λ xs. FirstTurned moment xs mid new) are first) [
            | inl e ↦ record {
              others = others;
              kept = x.kept;
              count_is = omega arith;
              now_are = ap (λ (n : Lingerers). n.all) e.1;
              turned = λ rest of_rest h. rw e.1 (turned rest of_rest (inl (e.0, h)));
              refused_is = ap (λ (n : Lingerers). n.refused) e.1 ∙ x.refused_is;
            }
            | inr s ↦ record {
              others = others;
              kept = x.kept ++ s.1 ∷ [];
              count_is = omega arith;
              now_are = ap (λ (n : Lingerers). n.all) s.3 ∙ append_assoc others x.kept (s.1 ∷ []);
              turned = λ rest of_rest h.
                  rw (
                    s.3,
                    append_assoc x.kept (s.1 ∷ []) rest,
                    or_assoc mid.has_more (is_all s.0) of_rest,
                  )
                  (turned (s.1 ∷ rest) (is_all s.0 || of_rest) (inr (s.0, s.1, rest, of_rest, s.2, h, refl, refl)));
              refused_is = ap (λ (n : Lingerers). n.refused) s.3 ∙ x.refused_is;
            }
          ]

  pub all_turned : (refused : ℕ) (old : List Lingerer) (new : Lingerers) (count : ℕ) → length old ≡ count → TurnedSoFar refused old count new
      → AllTurned moment old new.all new.has_more
  all_turned refused old new count is x = by x.others x.count_is x.now_are x.turned
    where
      by : (others : List Lingerer) → count + length others ≡ length old → new.all ≡ others ++ x.kept → Turns old x.kept new.has_more others
          → AllTurned moment old new.all new.has_more
      by [] all are turned =
          subst (λ (xs : List Lingerer). AllTurned moment old xs new.has_more) (append-nil x.kept ∙ sym are)
          (subst (λ (b : Bool). AllTurned moment old (x.kept ++ []) b) (or-false new.has_more) (turned [] false (refl, refl)))
      by (l ∷ others) all are turned = absurd (let more : count + suc (length others) ≡ length old = all in omega arith)
