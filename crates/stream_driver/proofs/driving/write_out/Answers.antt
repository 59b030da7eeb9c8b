use Rattle.stream_driver.proofs.driving.write_out.Goals as goal
use Rattle.std.proofs.Common.{◌≡◌, ◌∙◌, length, refl, sym, ap, arith}
use Rattle.std.proofs.lemmas.List.{nil_from_length}
use Rattle.sessions.proofs.EventSteps.{pending_seen}
use Rattle.stream_driver.proofs.Appends.{spends_none, spends_then}
use Rattle.stream_driver.proofs.Loops.{owed_now, written_none, written_then, written_stopped}
use Rattle.stream_driver.proofs.Sends.{reports_map, reports_still, reports_two_at}
use Rattle.stream_driver.proofs.Waiting.{stays_last, stays_still}
use Rattle.stream_driver.proofs.States.{leads_none, present_in, present_after, stands_after}

pub loop-owed-init : goal.loop-owed-init
loop-owed-init g c =
    let was_answered = reports_still (leads_none c.args.hub.now c.law_runs_follow.ensures.none _
    (λ h stands. written_none (present_in c.args.s stands.state c.requires.present.1) (c.requires.pending
    ∙ ap length (pending_seen c.args.hub.now h.hub stands.state c.args.s)))) in
    record { was_answered = was_answered; spends = spends_none c.args.hub.now c.args.stream.now; sound = λ sound. sound }

pub write_some-requires : goal.write_some-requires
write_some-requires g c = record {
  present = (present_after c.args.s c.args.s c.requires.present c.loop-owed.invariant.was_answered.leads (λ h k before p. p.moves.carried.runs.present)).1;
  some = (let owed = owed_now c.requires.present.0 c.loop-owed.invariant.was_answered in let some = c.loop-owed-test.true in omega arith);
}

pub overflow_sub-owed : goal.overflow_sub-owed
overflow_sub-owed g c = let owed = owed_now c.requires.present.0 c.loop-owed.invariant.was_answered in let within = c.in-Moved.ensures.within.1 in omega arith

pub loop-owed-smaller : goal.loop-owed-smaller
loop-owed-smaller g c = let some = c.in-Moved.ensures.within.0 in let owes = c.loop-owed-test.true in omega arith

pub loop-owed-preserved : goal.loop-owed-preserved
loop-owed-preserved g c =
    let some = stands_after c.requires.present.0 c.loop-owed.invariant.was_answered.leads in
    record {
      was_answered = reports_two_at c.law_runs_follow.ensures.follow c.loop-owed.invariant.was_answered c.in-Moved.ensures.written (λ h k p. p.moves.carried)
          (λ h k l was stands p q. written_then p c.in-Moved.n q);
      spends = spends_then c.loop-owed.invariant.spends (c.in-Moved.ensures.spends some);
      sound = λ sound. c.in-Moved.ensures.stays.sound (c.loop-owed.invariant.sound sound);
    }

pub returns-in-Blocked : goal.returns-in-Blocked
returns-in-Blocked g c =
    let some = stands_after c.requires.present.0 c.loop-owed.invariant.was_answered.leads in
    record {
      written = reports_two_at c.law_runs_follow.ensures.follow c.loop-owed.invariant.was_answered c.in-Blocked.ensures.written (λ h k p. p.moves.carried)
          (λ h k l was stands p q. written_stopped p _ _ c.loop-owed-test.true q q.why (λ why. why));
      spends = spends_then c.loop-owed.invariant.spends (c.in-Blocked.ensures.spends some);
      stays = stays_last g.S.Stream.is_sound g.S.Stream.waits _ _ _ c.loop-owed.invariant.sound c.in-Blocked.ensures.stays (λ blocked. refl);
    }

pub returns-in-Failed : goal.returns-in-Failed
returns-in-Failed g c =
    let some = stands_after c.requires.present.0 c.loop-owed.invariant.was_answered.leads in
    record {
      written = reports_two_at c.law_runs_follow.ensures.follow c.loop-owed.invariant.was_answered c.in-Failed.ensures.written (λ h k p. p.moves.carried)
          (λ h k l was stands p q. written_stopped p _ _ c.loop-owed-test.true q q.why (λ why. why));
      spends = spends_then c.loop-owed.invariant.spends (c.in-Failed.ensures.spends some);
      stays = stays_last g.S.Stream.is_sound g.S.Stream.waits _ _ _ c.loop-owed.invariant.sound c.in-Failed.ensures.stays (λ blocked. absurd (cc));
    }

pub returns : goal.returns
returns g c =
    let none : c.loop-owed.owed ≡ 0 = (let ends = c.loop-owed-test.false in omega arith) in
    record {
      written = reports_map c.loop-owed.invariant.was_answered
          (λ h k stands p. record { moves = p.moves; room = p.room; why = (p.moved, nil_from_length _ (sym p.owed_is ∙ none)) });
      spends = c.loop-owed.invariant.spends;
      stays = stays_still g.S.Stream.is_sound g.S.Stream.waits _ c.loop-owed.stream _ c.loop-owed.invariant.sound (λ blocked. cc);
    }
