use Rattle.event_loop.proofs.server.EventLoop.turn.Goals as goal
use Rattle.std.proofs.Common.{◌≡◌, ◌∙◌, sym, ap, subst}
use Rattle.std.proofs.lemmas.Result.{err_from_is_err_and}
use Rattle.mio.specs.Events.{items}
use Rattle.socket_calls.specs.HappenedCalls.{WasReported}
use Rattle.event_loop.proofs.Departing.{is_served, turns_serve}
use Rattle.event_loop.proofs.OneTurn.{ends_with, turned_by}
use Rattle.event_loop.proofs.WholeTurns.{accepts_keep, rest_keeps, rest_leads, then_accepts}
use Rattle.event_loop.specs.Lingerings.{lingers_in}
use Rattle.event_loop.specs.Polls.{WasAskedOnce, polls_of}
use Rattle.event_loop.specs.Turns.{accepts_now, is_reported_of}
use Rattle.event_loop.specs.Waits.{nanos_of}
use Rattle.event_loop.specs.contracts.socket.SocketStream.TheImpl.{ghosts}
use Rattle.event_loop.specs.declared.connections.TheConstants.{LINGERER}
use Rattle.event_loop.specs.declared.polling.Poller.{Poller}

pub invariant_of-self-3-clause-serving : goal.invariant_of-self-3-clause-serving
invariant_of-self-3-clause-serving g c =
    turns_serve c.drive.new.self.hub c.drive.new.self.table.slots (g.D.Sectors.moment c.device.result.now) (ap (λ d. g.D.Sectors.moment d) c.device.ensures)
    c.is_reported-comes_more.result
    (lingers_in c.drive.new.self.lingering) (lingers_in c.turn.new.self) c.turn.ensures c.drive.new.self.serving

pub returns-clause-collects : goal.returns-clause-collects
returns-clause-collects g c =
    let due : accepts_now c.args.self.now.backlog (items c.collect_garbage.new.self.poller.events)
    ≡ accepts_now c.drive.new.self.backlog (items c.drive.new.self.poller.events) =
    ap (λ (p : Poller). accepts_now c.args.self.now.backlog (items p.events)) (c.collect_garbage.ensures.keeps.poller ∙ c.accept_reported.ensures.keeps.poller)
    ∙ ap (λ backlog. accepts_now backlog (items c.drive.new.self.poller.events)) (sym c.drive.ensures.backlog)
    in
    let same : c.collect_garbage.new.self.poller ≡ c.wait.new.self = c.collect_garbage.ensures.keeps.poller ∙ c.accept_reported.ensures.keeps.poller
    ∙ c.drive.ensures.poller in
    ends_with ghosts.reports ghosts.traffic c.args.self.now c.accept_reported.new.self c.collect_garbage.new.self
    (turned_by ghosts.reports ghosts.traffic c.args.self.now _ c.accept_reported.new.self c.collect_garbage.new.self (c.collect_garbage.ensures.keeps.turns
    ∙ c.accept_reported.ensures.keeps.turns) (c.collect_garbage.ensures.keeps.next_width ∙ c.accept_reported.ensures.keeps.next_width)
    c.drive.ensures.next c.drive.ensures.port c.drive.ensures.backlog c.drive.ensures.refused c.accept_reported.ensures.lingerers
    c.collect_garbage.ensures.rests
    (subst (λ (p : Poller). WasReported c.args.self.now.poller.poll (items p.events)) (sym same) c.in_ok-wait.ensures.reported) c.wait.new.self same _ due
    c.is_reported-comes_more.result (c.is_reported-comes_more.ensures
    ∙ ap (λ (p : Poller). is_reported_of LINGERER (items p.events)) c.drive.ensures.poller) c.drive.ensures.drives.0
    (record { width_is = c.drive.ensures.drives.2.width_is; next_is = c.drive.ensures.drives.2.next_is })
    (record { begun = lingers_in c.drive.new.self.lingering; left = c.drive.ensures.drives.1; turned = rw c.device.ensures at c.turn.ensures })
    c.accept_reported.ensures.accepts
    (rest_leads c.law_runs_follow.ensures.follow c.args.self.now.hub c.accept_reported.new.self c.collect_garbage.new.self c.collect_garbage.ensures.rests _
    (then_accepts c.law_runs_follow.ensures.follow c.args.self.now.hub _ c.accept_reported.new.self _ c.drive.ensures.drives.0.drives.leads _
    c.accept_reported.ensures.accepts)))
    c.collect_garbage.ensures.collects

pub returns-clause-turned : goal.returns-clause-turned
returns-clause-turned g c = (returns-clause-collects g c).turn

pub returns-clause-bytes : goal.returns-clause-bytes
returns-clause-bytes g c =
    rest_keeps c.law_runs_follow.ensures.follow c.args.self.now.hub c.accept_reported.new.self c.collect_garbage.new.self c.collect_garbage.ensures.rests
    c.args.self.now.table.slots
    (accepts_keep c.law_runs_follow.ensures.follow c.args.self.now.hub _ c.accept_reported.new.self c.args.self.now.table.slots c.drive.ensures.keeps _
    c.accept_reported.ensures.accepts)

pub returns-in_err-wait-clause-waits : goal.returns-in_err-wait-clause-waits
returns-in_err-wait-clause-waits g c =
    let p = err_from_is_err_and c.from_residual.result c.from_residual.ensures.1 in
    record {
      polled = rw (p.1, p.2) c.in_err-wait.ensures.polls;
      waited = ap nanos_of c.wait.ensures.waited ∙ c.next_wait-wait.ensures;
      asked = c.wait.ensures.asked;
      room = rw c.wait.ensures.room c.args.self.now.room;
    }

pub returns-clause-waits : goal.returns-clause-waits
returns-clause-waits g c =
    let same : c.collect_garbage.new.self.poller ≡ c.wait.new.self = c.collect_garbage.ensures.keeps.poller ∙ c.accept_reported.ensures.keeps.poller
    ∙ c.drive.ensures.poller in record {
      polled = ap polls_of same ∙ c.in_ok-wait.ensures.polls;
      waited = ap (λ (p : Poller). nanos_of p.waited) same ∙ ap nanos_of c.wait.ensures.waited ∙ c.next_wait-wait.ensures;
      asked = subst (λ (p : Poller). WasAskedOnce c.args.self.now.poller.poll p.waited p.poll) (sym same) c.wait.ensures.asked;
      room = c.collect_garbage.new.self.room;
    }

pub returns-in_err-wait-clause-served : goal.returns-in_err-wait-clause-served
returns-in_err-wait-clause-served g c = (
  is_served c.args.self.now.hub c.args.self.now.table.slots c.args.self.now.lingering.queue.items c.args.self.now.serving,
  is_served c.args.self.now.hub c.args.self.now.table.slots c.args.self.now.lingering.queue.items c.args.self.now.serving,
)

pub returns-clause-served : goal.returns-clause-served
returns-clause-served g c = (
  is_served c.args.self.now.hub c.args.self.now.table.slots c.args.self.now.lingering.queue.items c.args.self.now.serving,
  is_served c.collect_garbage.new.self.hub c.collect_garbage.new.self.table.slots c.collect_garbage.new.self.lingering.queue.items
      c.collect_garbage.new.self.serving,
)
