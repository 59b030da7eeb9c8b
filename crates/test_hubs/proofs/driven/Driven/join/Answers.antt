use Rattle.test_hubs.proofs.driven.Driven.join.Goals as goal
use Rattle.std.proofs.Math.Logic.{∥∥₁_map}

pub invariant_of-self : goal.invariant_of-self
invariant_of-self c = record { stands = ∥∥₁_map c.args.self.now.stands (λ w. (let k = c.step.ensures.step.3 w.0 w.1 in (k.0, k.1))) }
