use Rattle.std.proofs.Common.{arith, refl}
use Rattle.sorted_pages.proofs.Slots.{bounded_more}
use Rattle.sorted_pages.proofs.held.bound_of.Goals as goal

pub loop-number-preserved : goal.loop-number-preserved
loop-number-preserved c =
    bounded_more c.args.numbers.now c.loop-number.number-index _ _ _ c.loop-number.invariant (omega arith) refl (omega arith) (omega arith) (omega arith)
