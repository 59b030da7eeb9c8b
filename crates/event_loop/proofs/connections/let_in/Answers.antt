use Rattle.event_loop.proofs.connections.let_in.Goals as goal
use Rattle.std.proofs.Common.{ℕ, inr, refl, sym, ap, subst, arith, ◌∙◌}
use Rattle.sessions.specs.SessionStreams.{Joins}
use Rattle.sessions.specs.declared.events.Outcome.TheVariants.{Done}
use Rattle.stream_driver.specs.declared.entries.EntryState.TheVariants.{Ready}
use Rattle.event_loop.proofs.Tables.{away, away_outside, away_tried, leads_one}
use Rattle.event_loop.specs.Sockets.{IsNewSocket}
use Rattle.event_loop.specs.Tables.{slot_at}
use Rattle.event_loop.specs.declared.connections.Refusal.TheVariants.{Full, Numbers}

pub returns-then-session : goal.returns-then-session
returns-then-session g c =
    away (IsNewSocket c.args.accepted) c.args.hub.now c.args.next.now c.args.table.now.slots c.args.table.now.slots refl c.law_runs_follow.ensures.none Numbers
    c.if-session.true

pub returns-then-len-ge-SESSIONS_MAX : goal.returns-then-len-ge-SESSIONS_MAX
returns-then-len-ge-SESSIONS_MAX g c =
    away (IsNewSocket c.args.accepted) c.args.hub.now c.args.next.now c.args.table.now.slots c.args.table.now.slots refl c.law_runs_follow.ensures.none Full
    (omega (arith, c.len.ensures, c.if-len-ge-SESSIONS_MAX.true))

pub returns-in-Err : goal.returns-in-Err
returns-in-Err g c =
    away_outside (IsNewSocket c.args.accepted) c.args.hub.now c.args.next.now c.args.table.now.slots c.make_place.new.table.slots c.make_place.ensures.slots
    c.law_runs_follow.ensures.none c.in-Err.refusal c.in-Err.ensures.fresh

pub returns-in_default : goal.returns-in_default
returns-in_default g c =
    away_tried (IsNewSocket c.args.accepted) c.args.hub.now c.args.next.now c.args.table.now.slots c.make_place.new.table.slots c.make_place.ensures.slots
    c.step.new.self c.step.result c.in_default.not-Done c.step.ensures.step c.step.ensures.ran c.step.ensures.device

pub returns : goal.returns
returns g c = (
  inr (record {
    key = c.insert_reserved.result;
    entry = record { session = c.args.next.now; stream = c.in-Ok.stream; state = Ready };
    key_is = omega (arith, c.insert_reserved.ensures.key, c.in-Ok.ensures.place.1);
    vacant = ap (λ slots. slot_at slots c.insert_reserved.result) (sym c.make_place.ensures.slots) ∙ c.insert_reserved.ensures.was_vacant;
    changed = c.insert_reserved.ensures.updates.changed;
    others = λ other differs. c.insert_reserved.ensures.updates.others other differs ∙ ap (λ slots. slot_at slots other) c.make_place.ensures.slots;
    session = refl;
    state = refl;
    fresh = subst (λ (key : ℕ). IsNewSocket c.args.accepted key c.args.next.now c.in-Ok.stream) (sym c.insert_reserved.ensures.key) c.in-Ok.ensures.fresh;
    next_is = refl;
    joined = c.in-Done.ensures.step;
  }),
  refl,
  leads_one c.args.hub.now c.step.new.self (Joins c.args.next.now) Done c.in-Done.ensures.step c.in-Done.ensures.ran c.in-Done.ensures.device,
)
