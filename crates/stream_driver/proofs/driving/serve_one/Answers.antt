use Rattle.stream_driver.proofs.driving.serve_one.Goals as goal
use Rattle.std.proofs.Common.{arith, refl, sym, ◌∙◌}
use Rattle.std.proofs.Math.Bridge.{le_prop}
use Rattle.sessions.proofs.EventSteps.{pending_seen, room_seen, status_seen}
use Rattle.stream_driver.proofs.Appends.{keeps_idle, keeps_none, replied_now, serves_none, serves_not, serves_one}
use Rattle.stream_driver.proofs.Appends.{serves_then}
use Rattle.stream_driver.proofs.Loops.{read_nothing, read_then, read_stopped, serve_done, serve_starved}
use Rattle.stream_driver.proofs.Loops.{serve_replied, waits}
use Rattle.stream_driver.proofs.Sends.{reports_step, reports_still, reports_two_at}
use Rattle.stream_driver.proofs.Waiting.{stays_last, stays_still}
use Rattle.stream_driver.proofs.States.{leads_none, seen_after, stands_after}

pub loop-hub-init : goal.loop-hub-init
loop-hub-init g c =
    let hub = c.args.hub.now in
    let s = c.args.s in
    let was_answered = reports_still (leads_none c.args.hub.now c.law_runs_follow.ensures.none _
    (λ h stands. read_nothing (sym (status_seen hub h.hub stands.state s) ∙ c.requires.opened) (sym (pending_seen hub h.hub stands.state s)
    ∙ c.requires.nothing) (c.requires.room_is ∙ room_seen hub h.hub stands.state s))) in
    record { was_answered = was_answered; keeps = keeps_none hub c.args.stream.now; sound = λ sound. sound }

pub returns-in-Memory : goal.returns-in-Memory
returns-in-Memory g c =
    let some = stands_after c.requires.stands c.loop-hub.invariant.was_answered.leads in
    record {
      served = reports_step c.law_runs_follow.ensures.follow c.loop-hub.invariant.was_answered c.step.ensures.step c.step.ensures.ran c.step.ensures.device
          (λ h k p. p.moves.carried) (λ h k choice happens is stands p. serve_starved p happens is c.in-Memory.is);
      once = serves_then c.loop-hub.invariant.keeps (serves_one some c.step.ensures.records) tt;
      stays = stays_still g.S.Stream.is_sound g.S.Stream.waits _ c.loop-hub.stream _ c.loop-hub.invariant.sound (λ blocked. cc);
    }

pub returns-in-Done : goal.returns-in-Done
returns-in-Done g c =
    let some = stands_after c.requires.stands c.loop-hub.invariant.was_answered.leads in
    let replied = reports_step c.law_runs_follow.ensures.follow c.loop-hub.invariant.was_answered c.step.ensures.step c.step.ensures.ran c.step.ensures.device
    (λ h k p. p.moves.carried) (λ h k choice happens is stands p. serve_replied p happens is c.in-Done.is) in
    record {
      served = reports_step c.law_runs_follow.ensures.follow c.loop-hub.invariant.was_answered c.step.ensures.step c.step.ensures.ran c.step.ensures.device
          (λ h k p. p.moves.carried) (λ h k choice happens is stands p. serve_done p happens is c.in-Done.is);
      once = serves_then c.loop-hub.invariant.keeps (serves_one some c.step.ensures.records) (replied_now c.requires.stands replied);
      stays = stays_still g.S.Stream.is_sound g.S.Stream.waits _ c.loop-hub.stream _ c.loop-hub.invariant.sound (λ blocked. cc);
    }

pub read_some-requires : goal.read_some-requires
read_some-requires g c =
    let waited = waits c.law_runs_follow.ensures.follow c.loop-hub.invariant.was_answered c.step.ensures.step c.step.ensures.ran c.step.ensures.device
    c.in_default.not-Done
    c.in_default.not-Memory in
    seen_after le_prop c.requires.stands waited.leads (λ h k was stands p. p.2)

pub loop-hub-smaller : goal.loop-hub-smaller
loop-hub-smaller g c = let within = c.in-Moved.ensures.within in omega (arith, within.0, within.1)

pub loop-hub-preserved : goal.loop-hub-preserved
loop-hub-preserved g c =
    let waited = waits c.law_runs_follow.ensures.follow c.loop-hub.invariant.was_answered c.step.ensures.step c.step.ensures.ran c.step.ensures.device
    c.in_default.not-Done
    c.in_default.not-Memory in
    let some = stands_after c.requires.stands c.loop-hub.invariant.was_answered.leads in
    let idle = serves_none some c.step.ensures.step c.step.ensures.records c.in_default.not-Done c.in_default.not-Memory in
    record {
      was_answered = reports_two_at c.law_runs_follow.ensures.follow waited c.in-Moved.ensures.read (λ h k p. p.0.moves.carried)
          (λ h k l was stands p q. read_then p.0 c.in-Moved.n (q p.1 p.0.room_is));
      keeps = keeps_idle c.loop-hub.invariant.keeps idle (c.in-Moved.ensures.keeps (stands_after c.requires.stands waited.leads));
      sound = λ sound. c.in-Moved.ensures.stays.sound (c.loop-hub.invariant.sound sound);
    }

pub returns-in-Blocked : goal.returns-in-Blocked
returns-in-Blocked g c =
    let waited = waits c.law_runs_follow.ensures.follow c.loop-hub.invariant.was_answered c.step.ensures.step c.step.ensures.ran c.step.ensures.device
    c.in_default.not-Done
    c.in_default.not-Memory in
    let some = stands_after c.requires.stands c.loop-hub.invariant.was_answered.leads in
    let idle = serves_none some c.step.ensures.step c.step.ensures.records c.in_default.not-Done c.in_default.not-Memory in
    record {
      served = reports_two_at c.law_runs_follow.ensures.follow waited c.in-Blocked.ensures.read (λ h k p. p.0.moves.carried)
          (λ h k l was stands p q. (let read = q p.1 p.0.room_is in read_stopped p.0 _ _ p.1 read read.why (λ served why. why)));
      once = serves_not (keeps_idle c.loop-hub.invariant.keeps idle (c.in-Blocked.ensures.keeps (stands_after c.requires.stands waited.leads))) tt;
      stays = stays_last g.S.Stream.is_sound g.S.Stream.waits _ _ _ c.loop-hub.invariant.sound c.in-Blocked.ensures.stays (λ blocked. refl);
    }

pub returns-in-Failed : goal.returns-in-Failed
returns-in-Failed g c =
    let waited = waits c.law_runs_follow.ensures.follow c.loop-hub.invariant.was_answered c.step.ensures.step c.step.ensures.ran c.step.ensures.device
    c.in_default.not-Done
    c.in_default.not-Memory in
    let some = stands_after c.requires.stands c.loop-hub.invariant.was_answered.leads in
    let idle = serves_none some c.step.ensures.step c.step.ensures.records c.in_default.not-Done c.in_default.not-Memory in
    record {
      served = reports_two_at c.law_runs_follow.ensures.follow waited c.in-Failed.ensures.read (λ h k p. p.0.moves.carried)
          (λ h k l was stands p q. (let read = q p.1 p.0.room_is in read_stopped p.0 _ _ p.1 read read.why (λ served why. why)));
      once = serves_not (keeps_idle c.loop-hub.invariant.keeps idle (c.in-Failed.ensures.keeps (stands_after c.requires.stands waited.leads))) tt;
      stays = stays_last g.S.Stream.is_sound g.S.Stream.waits _ _ _ c.loop-hub.invariant.sound c.in-Failed.ensures.stays (λ blocked. absurd (cc));
    }

pub returns-in-Ended : goal.returns-in-Ended
returns-in-Ended g c =
    let waited = waits c.law_runs_follow.ensures.follow c.loop-hub.invariant.was_answered c.step.ensures.step c.step.ensures.ran c.step.ensures.device
    c.in_default.not-Done
    c.in_default.not-Memory in
    let some = stands_after c.requires.stands c.loop-hub.invariant.was_answered.leads in
    let idle = serves_none some c.step.ensures.step c.step.ensures.records c.in_default.not-Done c.in_default.not-Memory in
    record {
      served = reports_two_at c.law_runs_follow.ensures.follow waited c.in-Ended.ensures.read (λ h k p. p.0.moves.carried)
          (λ h k l was stands p q. (let read = q p.1 p.0.room_is in read_stopped p.0 _ _ p.1 read read.why (λ served why. why)));
      once = serves_not (keeps_idle c.loop-hub.invariant.keeps idle (c.in-Ended.ensures.keeps (stands_after c.requires.stands waited.leads))) tt;
      stays = stays_last g.S.Stream.is_sound g.S.Stream.waits _ _ _ c.loop-hub.invariant.sound c.in-Ended.ensures.stays (λ blocked. absurd (cc));
    }
