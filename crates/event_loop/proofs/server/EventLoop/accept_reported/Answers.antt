use Rattle.event_loop.proofs.server.EventLoop.accept_reported.Goals as goal
use Rattle.std.proofs.Common.{◌∙◌, refl, sym, subst}
use Rattle.mio.specs.Events.{items}
use Rattle.event_loop.proofs.OneTurn.{none_closed}
use Rattle.event_loop.specs.Lingerings.{lingers_in}
use Rattle.event_loop.specs.Turns.{Accepted}

pub returns-then-accepts_now-clause-accepts : goal.returns-then-accepts_now-clause-accepts
returns-then-accepts_now-clause-accepts g c =
    subst (λ accepts. Accepted accepts c.args.self.now c.accept.new.self) (sym c.if-accepts_now.true ∙ c.accepts_now.ensures) c.accept.ensures.accepts

pub returns-else-accepts_now-clause-accepts : goal.returns-else-accepts_now-clause-accepts
returns-else-accepts_now-clause-accepts g c =
    subst (λ accepts. Accepted accepts c.args.self.now c.args.self.now) (sym c.if-accepts_now.false
    ∙ c.accepts_now.ensures)
    (record {
      hub = refl;
      table = refl;
      next = refl;
      port = refl;
      backlog = refl;
      has_garbage = refl;
      lingering = refl;
      refused = refl;
      turns = refl;
      next_width = refl;
    })

pub returns-else-accepts_now-clause-lingerers : goal.returns-else-accepts_now-clause-lingerers
returns-else-accepts_now-clause-lingerers g c =
    none_closed c.args.self.now.backlog (items c.args.self.now.poller.events) (lingers_in c.args.self.now.lingering) (sym c.accepts_now.ensures
    ∙ c.if-accepts_now.false)
