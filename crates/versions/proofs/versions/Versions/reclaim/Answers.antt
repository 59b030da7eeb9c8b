use Rattle.versions.proofs.versions.Versions.reclaim.Goals as goal
use Rattle.std.proofs.Common.{◌≡◌, ℕ, Bool, false, arith}
use Rattle.std.proofs.lemmas.Bool.Decides.{nat_tests}
use Rattle.std.specs.Prelude.{nat_lt}
use Rattle.versions.proofs.Histories.{stands-itself, stands-on, classified-on}
use Rattle.versions.proofs.Stores.{seen-itself, seen-on, reclaimed-on}

no_garbage : (r : Bool) (n : ℕ) → r ≡ nat_lt 0 n → r ≡ false → n ≡ 0
no_garbage r n is none = grind (arith, nat_tests)

pub steps-init : goal.steps-init
steps-init c = record { seen = seen-itself c.args.self.now c.args.begins.now; stands = λ few. stands-itself c.args.begins.now c.args.self.now }

pub steps-preserved : goal.steps-preserved
steps-preserved c =
    let old = c.args.self.now in
    let bs = c.args.begins.now in
    record {
      seen = seen-on old c.steps.self c.reclaim_step.new.self bs c.steps.invariant.seen c.reclaim_step.ensures.reclaimed.seen;
      stands = λ few. stands-on bs old c.steps.self c.reclaim_step.new.self (c.steps.invariant.stands few) (c.reclaim_step.ensures.stands few);
    }

pub returns-clause-reclaimed : goal.returns-clause-reclaimed
returns-clause-reclaimed c =
    reclaimed-on c.args.self.now c.steps.self c.reclaim_step.new.self c.args.begins.now c.steps.invariant.seen
    (c.reclaim_step.ensures.reclaimed.all (no_garbage _ _ c.reclaim_step.ensures.still c.steps-test.false))

pub returns-clause-classified : goal.returns-clause-classified
returns-clause-classified c = λ few.
    classified-on c.args.begins.now c.args.self.now c.steps.self c.reclaim_step.new.self (c.steps.invariant.stands few) c.reclaim_step.ensures.classified

pub returns-clause-stands : goal.returns-clause-stands
returns-clause-stands c = λ few.
    stands-on c.args.begins.now c.args.self.now c.steps.self c.reclaim_step.new.self (c.steps.invariant.stands few) (c.reclaim_step.ensures.stands few)
