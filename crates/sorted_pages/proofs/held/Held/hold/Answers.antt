use Rattle.std.proofs.Common.{refl, arith, subst}
use Rattle.sorted_pages.proofs.Slots.{hold-first, hold-more}
use Rattle.sorted_pages.specs.Held.{AreHeldOf}
use Rattle.sorted_pages.proofs.held.Held.hold.Goals as goal

pub loop-number-init : goal.loop-number-init
loop-number-init c = hold-first c.args.last c.args.numbers.now c.args.self.now c.release_others.new.self
    (omega arith) c.release_others.ensures.apart c.release_others.ensures.places
    (subst (λ ns. AreHeldOf ns c.args.self.now c.release_others.new.self) c.of.ensures c.release_others.ensures.kept)

pub loop-number-preserved : goal.loop-number-preserved
loop-number-preserved c = hold-more c.args.last c.args.numbers.now c.loop-number.number-index _ c.args.self.now c.loop-number.self c.add_late.new.self
    c.loop-number.invariant (omega arith) refl c.add_late.ensures
