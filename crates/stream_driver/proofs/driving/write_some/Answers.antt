use Rattle.stream_driver.proofs.driving.write_some.Goals as goal
use Rattle.std.proofs.Common.{◌≤◌, length, ap, subst, ◌∙◌, take, ◌++◌}
use Rattle.sessions.specs.StandsFor.{pending_of}
use Rattle.stream_driver.proofs.Appends.{sends_none, spends_not, spends_some, spends_write}
use Rattle.stream_driver.proofs.OneCall.{wrote_moved, wrote_none}
use Rattle.stream_driver.proofs.Sends.{begins_sent, reports_call}
use Rattle.stream_driver.specs.Traffic.{WritesWithin, bytes_written}
use Rattle.stream_driver.specs.Types.{Wrote}

pub returns-in-Moved-clause-written : goal.returns-in-Moved-clause-written
returns-in-Moved-clause-written g c =
    let n = c.in-Moved.n in
    let pending = pending_of c.args.hub.now c.args.s in
    let sent = λ (t : g.S.Stream.reports). (c.in-Moved.ensures.moved t).sent
    ∙ ap (λ l. (g.S.Stream.traffic c.args.stream.now).sent ++ take n l) c.pending.ensures.bytes in
    reports_call c.law_runs_follow.ensures.none
    (wrote_moved n c.in-Moved.ensures.within.0 c.step.ensures.step c.step.ensures.ran c.step.ensures.device c.requires.present
    (subst (λ l. n ≤ length l) c.pending.ensures.bytes c.in-Moved.ensures.within.1) sent
    (λ r. (c.in-Moved.ensures.moved r).received) c.in-Moved.ensures.answered)
    (g.D.Sectors.moment c.device.result.now) (ap (λ d. g.D.Sectors.moment d) c.device.ensures) (λ r. (c.in-Moved.ensures.moved r).departed)
    (λ t. (take n pending, begins_sent n pending, sent t))

pub returns-in_default-clause-within : goal.returns-in_default-clause-within
returns-in_default-clause-within g c = subst (λ l. WritesWithin c.write-answer.result (length l)) c.pending.ensures.bytes c.write-answer.ensures.within

pub returns-in_default-clause-written : goal.returns-in_default-clause-written
returns-in_default-clause-written g c =
    let n = bytes_written c.write-answer.result in
    let pending = pending_of c.args.hub.now c.args.s in
    let sent = λ (t : g.S.Stream.reports). (c.write-answer.ensures.moved t).sent
    ∙ ap (λ l. (g.S.Stream.traffic c.args.stream.now).sent ++ take n l) c.pending.ensures.bytes in
    reports_call c.law_runs_follow.ensures.none
    (wrote_none c.law_runs_follow.ensures.none c.write-answer.result c.in_default.not-Moved c.requires.present pending
    (λ r. (c.write-answer.ensures.moved r).received) sent
    c.write-answer.ensures.answered)
    (g.D.Sectors.moment c.device.result.now) (ap (λ d. g.D.Sectors.moment d) c.device.ensures) (λ r. (c.write-answer.ensures.moved r).departed)
    (λ t. (take n pending, begins_sent n pending, sent t))

pub returns-in-Moved-clause-spends : goal.returns-in-Moved-clause-spends
returns-in-Moved-clause-spends g c some =
    let n = c.in-Moved.n in
    let pending = pending_of c.args.hub.now c.args.s in
    let sent = λ (t : g.S.Stream.reports). (c.in-Moved.ensures.moved t).sent
    ∙ ap (λ l. (g.S.Stream.traffic c.args.stream.now).sent ++ take n l) c.pending.ensures.bytes in
    spends_some {reports = g.S.Stream.reports} {before = g.S.Stream.traffic c.args.stream.now} {after = g.S.Stream.traffic c.write-answer.new.self} n some
    (wrote_moved n c.in-Moved.ensures.within.0 c.step.ensures.step c.step.ensures.ran c.step.ensures.device c.requires.present
    (subst (λ l. n ≤ length l) c.pending.ensures.bytes c.in-Moved.ensures.within.1) sent
    (λ r. (c.in-Moved.ensures.moved r).received) c.in-Moved.ensures.answered)
    (λ k. spends_write (Wrote n) _ c.in-Moved.ensures.within c.in-Moved.ensures.moved (c.in-Moved.ensures.taken k))
    (sends_none some c.step.ensures.step c.step.ensures.records)

pub returns-in_default-clause-spends : goal.returns-in_default-clause-spends
returns-in_default-clause-spends g c some =
    spends_not c.write-answer.result c.in_default.not-Moved
    (λ k. spends_write c.write-answer.result _ c.write-answer.ensures.within c.write-answer.ensures.moved (c.write-answer.ensures.taken k))
