use Rattle.sessions.proofs.hub.Hub.join.Goals as goal
use Rattle.std.proofs.Common.{arith}
use Rattle.std.proofs.lemmas.Grind.{common_steps}
use Rattle.sessions.proofs.EventSteps.{leads, how_many, insert-at_hand}
use Rattle.sessions.specs.SessionStreams.{hub_step, More, new_stream}

pub returns-then-not-is_above-clause-step : goal.returns-then-not-is_above-clause-step
unfolding hub_step
returns-then-not-is_above-clause-step g c = leads c.args.self.now _ _ _ More (λ h stands. grind (arith, common_steps))

pub returns-then-len-ge-SESSIONS_MAX-clause-step : goal.returns-then-len-ge-SESSIONS_MAX-clause-step
unfolding hub_step
returns-then-len-ge-SESSIONS_MAX-clause-step g c = leads c.args.self.now _ _ _ More (λ h stands. grind (arith, common_steps, how_many c.args.self.now h stands))

pub returns-in_default-clause-step : goal.returns-in_default-clause-step
unfolding hub_step
returns-in_default-clause-step g c = leads c.args.self.now _ _ _ More (λ h stands. grind (arith, common_steps, how_many c.args.self.now h stands))

pub returns-in-Err-clause-step : goal.returns-in-Err-clause-step
unfolding hub_step
returns-in-Err-clause-step g c = leads c.args.self.now _ _ _ More (λ h stands. grind (arith, common_steps, how_many c.args.self.now h stands))

pub returns-in-Ok-insert-clause-step : goal.returns-in-Ok-insert-clause-step
unfolding hub_step
returns-in-Ok-insert-clause-step g c =
    leads c.args.self.now _ _ _ More (λ h stands. grind (arith, common_steps, how_many c.args.self.now h stands, insert-at_hand c.args.s new_stream h.present))
