use Rattle.last_readers.proofs.run.ReadRun.numbered.Goals as goal
use Rattle.std.proofs.Common.{◌≡◌, ap, ◌∙◌, ◌++◌, length, true, arith}
use Rattle.last_readers.proofs.StepLaws.{renumbered_rises, renumbered_run, in_place_low}
use Rattle.last_readers.proofs.Sweeps.{renumbered_are_from}
use Rattle.last_readers.specs.Steps.{are_from, steps_rise, number_at}

pub invariant_of-result : goal.invariant_of-result
invariant_of-result c =
    let n = c.args.number in
    let was = c.args.ready.steps.items in
    let made = c.renumber.new.self.items in
    let rises : steps_rise made ≡ true = ap steps_rise c.renumber.ensures ∙ renumbered_rises n was ∙ c.args.ready.rising in
    record {
      first_rises = ap (λ l. steps_rise (l ++ made)) c.new.ensures ∙ rises;
      second_rises = ap (λ l. steps_rise (l ++ made)) c.new-2.ensures ∙ rises;
      places = omega (arith, ap length c.new.ensures, ap length c.new-2.ensures);
      upto = λ k.
          let is = renumbered_run n c.new.result.items c.new-2.result.items made was k c.new.ensures c.new-2.ensures c.renumber.ensures in
          omega (arith, is, in_place_low n (number_at was k));
      numbers = (λ i. are_from n (c.new.ensures i) (c.new-2.ensures i) (c.renumber.ensures i)) ∙ renumbered_are_from n was;
    }

pub returns-clause-numbers : goal.returns-clause-numbers
returns-clause-numbers c =
    λ k. renumbered_run c.args.number c.new.result.items c.new-2.result.items c.renumber.new.self.items c.args.ready.steps.items k c.new.ensures
    c.new-2.ensures c.renumber.ensures
