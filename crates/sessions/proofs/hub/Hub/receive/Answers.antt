use Rattle.sessions.proofs.hub.Hub.receive.Goals as goal
use Rattle.std.proofs.Common.{sym, ◌∙◌, arith}
use Rattle.std.proofs.lemmas.Grind.{common_steps}
use Rattle.std.proofs.lemmas.Map.Steps.{set_value_same}
use Rattle.sessions.proofs.EventSteps.{leads, stream-some, stream-none, set_is}
use Rattle.sessions.specs.SessionStreams.{hub_step, More}

pub returns-in-None-clause-step : goal.returns-in-None-clause-step
unfolding hub_step
returns-in-None-clause-step g c =
    leads c.args.self.now _ _ _ More (λ h stands. grind (arith, common_steps, stream-none c.args.self.now h stands c.args.s c.in-None.ensures.value))

pub returns-then-not-is_open-clause-step : goal.returns-then-not-is_open-clause-step
unfolding hub_step
returns-then-not-is_open-clause-step g c = leads c.args.self.now _ _ _ More (λ h stands. (
    let f = stream-some c.args.self.now h stands c.args.s _ c.in-Some.ensures.value in
    let same = set_value_same _ _ _ (sym c.in-Some.ensures.value) ∙ stands.sessions in grind (arith, common_steps)))

pub returns-then-piece-room-clause-step : goal.returns-then-piece-room-clause-step
unfolding hub_step
returns-then-piece-room-clause-step g c = leads c.args.self.now _ _ _ More (λ h stands. (
    let f = stream-some c.args.self.now h stands c.args.s _ c.in-Some.ensures.value in
    let same = set_value_same _ _ _ (sym c.in-Some.ensures.value) ∙ stands.sessions in grind (arith, common_steps)))

pub returns-else-piece-room-clause-step : goal.returns-else-piece-room-clause-step
unfolding hub_step
returns-else-piece-room-clause-step g c = leads c.args.self.now _ _ _ More (λ h stands. (
    let f = stream-some c.args.self.now h stands c.args.s _ c.in-Some.ensures.value in
    grind (arith, common_steps, set_is c.args.self.now h stands c.args.s c.receive.new.self)))
