use Rattle.event_loop.proofs.lingering.Lingering.turn.Goals as goal
use Rattle.std.proofs.Common.{◌≡◌, ◌||◌, ◌∙◌, true, rules, refl, sym, ap, subst}
use Rattle.event_loop.proofs.Turned.{all_turned, none_turned, one_turned}
use Rattle.event_loop.proofs.lingering.Lingering.turn.Goals.{else-not-is_reported-via-then-not-is_reported+else-not-self}
use Rattle.event_loop.proofs.lingering.Lingering.turn.Goals.{else-not-is_reported-via-else-not-is_reported}
use Rattle.event_loop.specs.Lingerings.{lingers_in, TurnedIf}

pub loop-init : goal.loop-init
loop-init g c = none_turned (g.D.Sectors.moment c.args.device.now) _ refl

pub loop-preserved : goal.loop-preserved
loop-preserved g c = one_turned (g.D.Sectors.moment c.args.device.now) _ _ _ _ c.loop.counter (search rules) c.loop.invariant c.turn_first.ensures

pub returns : goal.returns
returns g c =
    let reads : (c.args.is_reported || c.args.self.now.has_more) ≡ true = elim c.else-not-is_reported.branch [
      | else-not-is_reported-via-then-not-is_reported+else-not-self w ↦ ap (λ b. b || c.args.self.now.has_more) w.if-not-is_reported.true ∙ w.if-not-self.false
      | else-not-is_reported-via-else-not-is_reported w ↦ ap (λ b. b || c.args.self.now.has_more) w.if-not-is_reported.false
    ] in
    let all = lingers_in c.loop.self in
    subst (λ b. TurnedIf (g.D.Sectors.moment c.args.device.now) b (lingers_in c.args.self.now) all) (sym reads)
    (all_turned (g.D.Sectors.moment c.args.device.now) _ _ all c.loop.counter (search rules) c.loop.invariant, c.loop.invariant.refused_is)
