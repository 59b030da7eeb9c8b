use Rattle.sessions.proofs.hub.Hub.serve.Goals as goal
use Rattle.std.proofs.Common.{arith, refl}
use Rattle.std.proofs.lemmas.Grind.{common_steps}
use Rattle.sessions.proofs.EventSteps.{leads, serves, stream-none}
use Rattle.sessions.specs.SessionStreams.{hub_step, More}

pub returns-in-Some-clause-step : goal.returns-in-Some-clause-step
returns-in-Some-clause-step g c =
    serves c.args.self.now _ c.args.s c.in-Some.session.now c.serve.new.self c.serve.result c.in-Some.ensures.value refl refl c.serve.ensures.step

pub returns-in-None-clause-step : goal.returns-in-None-clause-step
unfolding hub_step
returns-in-None-clause-step g c =
    leads c.args.self.now _ _ _ More (λ h stands. grind (arith, common_steps, stream-none c.args.self.now h stands c.args.s c.in-None.ensures.value))
