use Rattle.engine.proofs.engine.Engine.law_passes.Goals as goal
use Rattle.std.proofs.Common.{refl}
use Rattle.model.specs.Operations.Operation.{Ping, Faulty}
use Rattle.model.specs.Operations.Response.{Pong, Refused}
use Rattle.engine.proofs.Calls.{passed, made_same}

pub returns-clause-ping : goal.returns-clause-ping
returns-clause-ping g c = passed c.args.self.now c.args.s Ping Pong (λ m r. refl) (λ m. refl) (λ t m qs made. (refl, made_same t m qs Ping made refl))

pub returns-clause-faulty : goal.returns-clause-faulty
returns-clause-faulty g c refusal =
    passed c.args.self.now c.args.s (Faulty refusal) (Refused refusal) (λ m r. refl) (λ m. refl)
    (λ t m qs made. (refl, made_same t m qs (Faulty refusal) made refl))
