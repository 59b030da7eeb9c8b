use Rattle.event_loop.proofs.order.take_turn.Goals as goal
use Rattle.std.proofs.Common.{◌≡◌, ◌∙◌, ◌-◌, ap, rules}
use Rattle.stream_driver.specs.declared.entries.EntryState.TheVariants.{Ready}
use Rattle.event_loop.proofs.Classes.{late_as, light_as}
use Rattle.event_loop.specs.Order.{is_one}

pub returns-clause-light : goal.returns-clause-light
returns-clause-light g c =
    let ready : c.args.entry.now.state ≡ Ready = search rules in
    c.behind.ensures.light ∙ ap (λ b. c.args.left.light - is_one b) (light_as c.args.hub.now c.args.class c.args.entry.now ready c.requires)

pub returns-clause-late : goal.returns-clause-late
returns-clause-late g c =
    let ready : c.args.entry.now.state ≡ Ready = search rules in
    c.behind.ensures.late ∙ ap (λ b. c.args.left.late - is_one b) (late_as c.args.hub.now c.args.class c.args.entry.now ready c.requires)
