use Rattle.stream_driver.proofs.driving.drive_over.Goals as goal
use Rattle.std.proofs.Common.{arith, refl, sym, ◌∙◌}
use Rattle.sessions.proofs.EventSteps.{status_seen}
use Rattle.stream_driver.proofs.Appends.{NotEnded, once_then, out, pending_none, served_once, serves, so_far}
use Rattle.stream_driver.proofs.Appends.{spends_zero, spent}
use Rattle.stream_driver.proofs.Loops.{again, driven_none, flushes_out, gone_closed, gone_serving, gone_writing}
use Rattle.stream_driver.proofs.Loops.{leaves, out_replied, room_flushed, status_flushed, waits_to_read}
use Rattle.stream_driver.proofs.Loops.{waits_to_write}
use Rattle.stream_driver.proofs.Sends.{reports_still, reports_three, reports_two_at}
use Rattle.stream_driver.proofs.Waiting.{stays_last, stays_still}
use Rattle.stream_driver.proofs.States.{has_run, leads_none, present_in, present_after, stands_after}

pub requests-init : goal.requests-init
requests-init g c =
    let was_answered = reports_still (leads_none c.args.hub.now c.law_runs_follow.ensures.none _
    (λ h stands. driven_none (present_in c.args.s stands.state c.requires.1))) in
    record { was_answered = was_answered; adds = λ keeps. NotEnded refl (0, spends_zero c.args.stream.now); sound = λ sound. sound }

pub write_out-requires-clause-present : goal.write_out-requires-clause-present
write_out-requires-clause-present g c =
    present_after c.args.s c.args.s c.requires c.requests.invariant.was_answered.leads (λ h k before p. p.driven.carried.runs.present)

pub returns-in-Blocked : goal.returns-in-Blocked
returns-in-Blocked g c =
    record {
      driven = reports_two_at c.law_runs_follow.ensures.follow c.requests.invariant.was_answered c.in-Blocked.ensures.written (λ h k p. p.driven.carried)
          (λ h k l was stands p q. waits_to_write p (omega arith) q);
      appends = λ keeps. spent c.law_runs_follow.ensures.follow keeps (has_run c.in-Blocked.ensures.written.leads) c.in-Blocked.ensures.spends
          (c.requests.invariant.adds keeps);
      stays = stays_last g.S.Stream.is_sound g.S.Stream.waits _ _ _ c.requests.invariant.sound c.in-Blocked.ensures.stays (λ waiting. refl);
    }

pub returns-in-Failed : goal.returns-in-Failed
returns-in-Failed g c =
    let some = stands_after (stands_after c.requires.0 c.requests.invariant.was_answered.leads) c.in-Failed.ensures.written.leads in
    record {
      driven = leaves c.law_runs_follow.ensures.follow c.requests.invariant.was_answered c.disconnect.ensures.answer c.in-Failed.ensures.written
          c.disconnect.ensures.left (λ h k l m stands p q r. gone_writing p (omega arith) q r);
      appends = λ keeps. once_then c.law_runs_follow.ensures.follow (has_run c.disconnect.ensures.left) (c.disconnect.ensures.records some)
          (spent c.law_runs_follow.ensures.follow keeps (has_run c.in-Failed.ensures.written.leads) c.in-Failed.ensures.spends
          (c.requests.invariant.adds keeps));
      stays = stays_still g.S.Stream.is_sound g.S.Stream.waits _ c.write_out.new.stream _
          (λ sound. c.in-Failed.ensures.stays.sound (c.requests.invariant.sound sound))
          (λ waiting. (let gone = c.disconnect.ensures.answer in cc));
    }

pub returns-in_default : goal.returns-in_default
returns-in_default g c =
    let before = stands_after c.requires.0 c.requests.invariant.was_answered.leads in
    let some = stands_after before c.in-Empty.ensures.written.leads in
    let status = c.view-view.ensures.1 ∙ sym (status_flushed before c.in-Empty.ensures.written) in
    record {
      driven = leaves c.law_runs_follow.ensures.follow c.requests.invariant.was_answered c.disconnect-in_default.ensures.answer c.in-Empty.ensures.written
          c.disconnect-in_default.ensures.left
          (λ h k l m stands p q r. gone_closed p (omega arith) q (λ e. c.in_default.not-Open (status ∙ status_seen _ _ stands c.args.s ∙ e)) r);
      appends = λ keeps. once_then c.law_runs_follow.ensures.follow (has_run c.disconnect-in_default.ensures.left)
          (c.disconnect-in_default.ensures.records some)
          (spent c.law_runs_follow.ensures.follow keeps (has_run c.in-Empty.ensures.written.leads) c.in-Empty.ensures.spends (c.requests.invariant.adds keeps));
      stays = stays_still g.S.Stream.is_sound g.S.Stream.waits _ c.write_out.new.stream _
          (λ sound. c.in-Empty.ensures.stays.sound (c.requests.invariant.sound sound))
          (λ waiting. (let gone = c.disconnect-in_default.ensures.answer in cc));
    }

pub serve_in_share-requires : goal.serve_in_share-requires
serve_in_share-requires g c =
    let some = stands_after c.requires.0 c.requests.invariant.was_answered.leads in
    record {
      stands = stands_after some c.in-Empty.ensures.written.leads;
      opened = status_flushed some c.in-Empty.ensures.written ∙ sym c.view-view.ensures.1 ∙ c.in-Open.is;
      nothing = pending_none some c.in-Empty.ensures.written;
      room_is = c.view-view.ensures.2 ∙ sym (room_flushed some c.in-Empty.ensures.written);
    }

pub returns-in-Blocked-serve_in_share : goal.returns-in-Blocked-serve_in_share
returns-in-Blocked-serve_in_share g c =
    let some = stands_after c.requires.0 c.requests.invariant.was_answered.leads in
    let flushed = flushes_out c.law_runs_follow.ensures.follow c.requests.invariant.was_answered c.in-Empty.ensures.written in
    record {
      driven = reports_two_at c.law_runs_follow.ensures.follow flushed c.in-Blocked-serve_in_share.ensures.served (λ h l p. p.0.driven.carried)
          (λ h l m was stands p r. waits_to_read p (omega arith) r);
      appends = λ keeps. served_once c.args.s (serves c.law_runs_follow.ensures.follow keeps (has_run c.in-Blocked-serve_in_share.ensures.served.leads)
          (has_run flushed.leads)
          c.in-Blocked-serve_in_share.ensures.once
          (out c.law_runs_follow.ensures.follow keeps (has_run c.in-Empty.ensures.written.leads) c.in-Empty.ensures.spends (c.requests.invariant.adds keeps)
          (pending_none some c.in-Empty.ensures.written)));
      stays = stays_last g.S.Stream.is_sound g.S.Stream.waits _ c.write_out.new.stream _
          (λ sound. c.in-Empty.ensures.stays.sound (c.requests.invariant.sound sound)) c.in-Blocked-serve_in_share.ensures.stays
          (λ waiting. refl);
    }

pub returns-in_default-serve_in_share : goal.returns-in_default-serve_in_share
returns-in_default-serve_in_share g c =
    let some = stands_after c.requires.0 c.requests.invariant.was_answered.leads in
    let flushed = flushes_out c.law_runs_follow.ensures.follow c.requests.invariant.was_answered c.in-Empty.ensures.written in
    record {
      driven =
          rw c.disconnect-in_default-serve_in_share.ensures.answer
          (reports_three c.law_runs_follow.ensures.follow flushed c.serve_in_share.ensures.served
          (reports_still c.disconnect-in_default-serve_in_share.ensures.left)
          (λ h l p. p.0.driven.carried) (λ l m r. r.carried)
          (λ h l m n stands p r t.
          gone_serving p (omega arith) c.serve_in_share.result c.in_default-serve_in_share.not-Replied c.in_default-serve_in_share.not-Blocked r t));
      appends = λ keeps. once_then c.law_runs_follow.ensures.follow (has_run c.disconnect-in_default-serve_in_share.ensures.left)
          (c.disconnect-in_default-serve_in_share.ensures.records (stands_after (stands_after some c.in-Empty.ensures.written.leads)
          c.serve_in_share.ensures.served.leads))
          (served_once c.args.s (serves c.law_runs_follow.ensures.follow keeps (has_run c.serve_in_share.ensures.served.leads) (has_run flushed.leads)
          c.serve_in_share.ensures.once
          (out c.law_runs_follow.ensures.follow keeps (has_run c.in-Empty.ensures.written.leads) c.in-Empty.ensures.spends (c.requests.invariant.adds keeps)
          (pending_none some c.in-Empty.ensures.written))));
      stays = stays_still g.S.Stream.is_sound g.S.Stream.waits _ c.serve_in_share.new.stream _
          (λ sound. c.serve_in_share.ensures.stays.sound (c.in-Empty.ensures.stays.sound (c.requests.invariant.sound sound)))
          (λ waiting. (let gone = c.disconnect-in_default-serve_in_share.ensures.answer in cc));
    }

pub write_out-requires-2-clause-present : goal.write_out-requires-2-clause-present
write_out-requires-2-clause-present g c =
    present_after c.args.s c.args.s c.requires c.requests.invariant.was_answered.leads (λ h k before p. p.driven.carried.runs.present)

pub returns-in-Blocked-write_out : goal.returns-in-Blocked-write_out
returns-in-Blocked-write_out g c =
    record {
      driven = reports_two_at c.law_runs_follow.ensures.follow c.requests.invariant.was_answered c.in-Blocked-write_out.ensures.written
          (λ h k p. p.driven.carried) (λ h k l was stands p q. waits_to_write p (omega arith) q);
      appends = λ keeps. spent c.law_runs_follow.ensures.follow keeps (has_run c.in-Blocked-write_out.ensures.written.leads)
          c.in-Blocked-write_out.ensures.spends
          (c.requests.invariant.adds keeps);
      stays = stays_last g.S.Stream.is_sound g.S.Stream.waits _ _ _ c.requests.invariant.sound c.in-Blocked-write_out.ensures.stays (λ waiting. refl);
    }

pub returns-in-Failed-write_out : goal.returns-in-Failed-write_out
returns-in-Failed-write_out g c =
    let some = stands_after (stands_after c.requires.0 c.requests.invariant.was_answered.leads) c.in-Failed-write_out.ensures.written.leads in
    record {
      driven = leaves c.law_runs_follow.ensures.follow c.requests.invariant.was_answered c.disconnect-in-Failed-write_out.ensures.answer
          c.in-Failed-write_out.ensures.written
          c.disconnect-in-Failed-write_out.ensures.left (λ h k l m stands p q r. gone_writing p (omega arith) q r);
      appends = λ keeps. once_then c.law_runs_follow.ensures.follow (has_run c.disconnect-in-Failed-write_out.ensures.left)
          (c.disconnect-in-Failed-write_out.ensures.records some)
          (spent c.law_runs_follow.ensures.follow keeps (has_run c.in-Failed-write_out.ensures.written.leads) c.in-Failed-write_out.ensures.spends
          (c.requests.invariant.adds keeps));
      stays = stays_still g.S.Stream.is_sound g.S.Stream.waits _ c.write_out-2.new.stream _
          (λ sound. c.in-Failed-write_out.ensures.stays.sound (c.requests.invariant.sound sound))
          (λ waiting. (let gone = c.disconnect-in-Failed-write_out.ensures.answer in cc));
    }

pub returns-in-Open-status : goal.returns-in-Open-status
returns-in-Open-status g c =
    let before = stands_after c.requires.0 c.requests.invariant.was_answered.leads in
    let opened = status_flushed before c.in-Empty-write_out.ensures.written ∙ sym c.view-view-2.ensures.1 ∙ c.in-Open-status.is in
    record {
      driven = reports_two_at c.law_runs_follow.ensures.follow c.requests.invariant.was_answered c.in-Empty-write_out.ensures.written
          (λ h k p. p.driven.carried) (λ h k l was stands p q. again p (omega arith) q (sym (status_seen _ _ stands c.args.s) ∙ opened));
      appends = λ keeps. spent c.law_runs_follow.ensures.follow keeps (has_run c.in-Empty-write_out.ensures.written.leads) c.in-Empty-write_out.ensures.spends
          (c.requests.invariant.adds keeps);
      stays = stays_still g.S.Stream.is_sound g.S.Stream.waits _ c.write_out-2.new.stream _
          (λ sound. c.in-Empty-write_out.ensures.stays.sound (c.requests.invariant.sound sound))
          (λ waiting. cc);
    }

pub returns-in_default-status : goal.returns-in_default-status
returns-in_default-status g c =
    let before = stands_after c.requires.0 c.requests.invariant.was_answered.leads in
    let some = stands_after before c.in-Empty-write_out.ensures.written.leads in
    let status = c.view-view-2.ensures.1 ∙ sym (status_flushed before c.in-Empty-write_out.ensures.written) in
    record {
      driven = leaves c.law_runs_follow.ensures.follow c.requests.invariant.was_answered c.disconnect-in_default-status.ensures.answer
          c.in-Empty-write_out.ensures.written c.disconnect-in_default-status.ensures.left
          (λ h k l m stands p q r. gone_closed p (omega arith) q (λ e. c.in_default-status.not-Open (status ∙ status_seen _ _ stands c.args.s ∙ e)) r);
      appends = λ keeps. once_then c.law_runs_follow.ensures.follow (has_run c.disconnect-in_default-status.ensures.left)
          (c.disconnect-in_default-status.ensures.records some)
          (spent c.law_runs_follow.ensures.follow keeps (has_run c.in-Empty-write_out.ensures.written.leads) c.in-Empty-write_out.ensures.spends
          (c.requests.invariant.adds keeps));
      stays = stays_still g.S.Stream.is_sound g.S.Stream.waits _ c.write_out-2.new.stream _
          (λ sound. c.in-Empty-write_out.ensures.stays.sound (c.requests.invariant.sound sound))
          (λ waiting. (let gone = c.disconnect-in_default-status.ensures.answer in cc));
    }

pub requests-preserved : goal.requests-preserved
requests-preserved g c =
    let some = stands_after c.requires.0 c.requests.invariant.was_answered.leads in
    let flushed = flushes_out c.law_runs_follow.ensures.follow c.requests.invariant.was_answered c.in-Empty.ensures.written in
    let opened = status_flushed some c.in-Empty.ensures.written ∙ sym c.view-view.ensures.1 ∙ c.in-Open.is in
    record {
      was_answered = reports_two_at c.law_runs_follow.ensures.follow flushed c.in-Replied.ensures.served (λ h l p. p.0.driven.carried)
          (λ h l m stands last p r. out_replied p (sym (status_seen _ _ stands c.args.s) ∙ opened) r);
      adds = λ keeps. so_far c.args.s c.in-Replied.ensures.once.replied
          (serves c.law_runs_follow.ensures.follow keeps (has_run c.in-Replied.ensures.served.leads) (has_run flushed.leads)
          c.in-Replied.ensures.once
          (out c.law_runs_follow.ensures.follow keeps (has_run c.in-Empty.ensures.written.leads) c.in-Empty.ensures.spends (c.requests.invariant.adds keeps)
          (pending_none some c.in-Empty.ensures.written)));
      sound = λ sound. c.in-Replied.ensures.stays.sound (c.in-Empty.ensures.stays.sound (c.requests.invariant.sound sound));
    }
