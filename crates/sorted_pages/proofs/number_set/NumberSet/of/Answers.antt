use Rattle.sorted_pages.proofs.number_set.NumberSet.of.Goals as goal
use Rattle.std.proofs.Common.{◌∙◌, arith, refl}
use Rattle.std.proofs.lemmas.List.{length-set}
use Rattle.sorted_pages.proofs.Slots.{none-placed, one-placed}

pub loop-number-init : goal.loop-number-init
loop-number-init c = (none-placed c.args.numbers.now 128, refl)

pub loop-number-preserved : goal.loop-number-preserved
loop-number-preserved c = (
  one-placed c.args.numbers.now c.loop-number.places c.home_of.result _ c.loop-number.number-index c.loop-number.invariant.0 (omega arith),
  length-set _ _ _ ∙ c.loop-number.invariant.1,
)

pub invariant_of-result : goal.invariant_of-result
invariant_of-result c = c.loop-number.invariant.0
