use Rattle.last_readers.proofs.runs.ReadRunRun.release.Goals as goal
use Rattle.std.proofs.Common.{◌≡◌, ◌∷◌, ℕ, List, [], ap, sym, length, arith}
use Rattle.std.proofs.lemmas.Bool.Decides.{nat_tests}
use Rattle.last_readers.specs.Merging.{IsStepMade, with_step}
use Rattle.last_readers.specs.Steps.{StepValue, cut}

cut_none : (o : ℕ) → cut o 0 ≡ 0
cut_none o = grind (arith, nat_tests)

-- of no steps none is made: it would say that nobody reads, as the keys below it do
made_of_none : (o : ℕ) (xs ys ts : List StepValue) → length xs ≡ 0 → length ys ≡ 0 → IsStepMade o xs ys ts ts
made_of_none o [] [] ts first second =
    let is = sym (cut_none o) in
    (record { key = []; at = 0; above = 0 }, is, is, ap (λ n. with_step (record { key = []; at = 0; above = 0 }) n ts) is)
made_of_none o (x ∷ xs) ys ts first second = absurd (omega arith)
made_of_none o [] (y ∷ ys) ts first second = absurd (omega arith)

pub returns-clause-makes : goal.returns-clause-makes
returns-clause-makes c = λ active o.
    let was = c.args.self.now in
    made_of_none o c.shrink_to.new.self.items c.shrink_to-2.new.self.items was.made.items
    (omega (arith, ap length c.shrink_to.ensures.items, c.requires.rest))
    (omega (arith, ap length c.shrink_to-2.ensures.items, c.requires.rest))
