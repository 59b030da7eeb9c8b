use Rattle.sessions.proofs.hub.Hub.left.Goals as goal
use Rattle.std.proofs.Common.{arith, refl}
use Rattle.std.proofs.lemmas.Grind.{common_steps}
use Rattle.sessions.proofs.EventSteps.{goes, leads, stream-none}
use Rattle.sessions.specs.SessionStreams.{hub_step, More}

pub returns-in-Some-clause-step : goal.returns-in-Some-clause-step
returns-in-Some-clause-step g c =
    goes c.args.self.now _ c.args.s _ c.in-Some.ensures.value c.in-Some.ensures.entries refl c.abort_transaction.ensures.left

pub returns-in-None-clause-step : goal.returns-in-None-clause-step
unfolding hub_step
returns-in-None-clause-step g c =
    leads c.args.self.now _ _ _ More (λ h stands. grind (arith, common_steps, stream-none c.args.self.now h stands c.args.s c.in-None.ensures.value))
