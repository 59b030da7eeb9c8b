use Rattle.stream_driver.proofs.driving.read_some.Goals as goal
use Rattle.std.proofs.Common.{◌≡◌, ◌≤◌, length, arith, ap, take, [], sym, ◌∙◌}
use Rattle.std.proofs.lemmas.Grind.{common_steps}
use Rattle.std.proofs.lemmas.List.{append-nil}
use Rattle.sessions.specs.StandsFor.{pending_of}
use Rattle.stream_driver.proofs.Appends.{none_none, receives_none, spends_read}
use Rattle.stream_driver.proofs.OneCall.{read_moved, read_none, reads_within}
use Rattle.stream_driver.proofs.Sends.{begins_nothing, reports_call}

pub returns-in-Moved-clause-read : goal.returns-in-Moved-clause-read
returns-in-Moved-clause-read g c =
    let piece = take c.in-Moved.n c.read-answer.new.into in
    let len : length piece ≡ c.in-Moved.n = grind (arith, common_steps) in
    let within : c.in-Moved.n ≤ c.args.room = grind (arith, common_steps) in
    reports_call c.law_runs_follow.ensures.none
    (read_moved c.in-Moved.n c.in-Moved.ensures.within.0 piece c.step.ensures.step c.step.ensures.ran c.step.ensures.device len within
    (λ r. (c.in-Moved.ensures.moved r).received)
    (λ r. (c.in-Moved.ensures.moved r).sent) c.in-Moved.ensures.answered)
    (g.D.Sectors.moment c.device.result.now) (ap (λ d. g.D.Sectors.moment d) c.device.ensures) (λ r. (c.in-Moved.ensures.moved r).departed)
    (λ t. (
      [],
      begins_nothing (pending_of c.args.hub.now c.args.s),
      (c.in-Moved.ensures.moved t).sent ∙ sym (append-nil (g.S.Stream.traffic c.args.stream.now).sent),
    ))

pub returns-in_default-clause-within : goal.returns-in_default-clause-within
returns-in_default-clause-within g c = reads_within c.read-answer.result _ c.args.room c.read-answer.ensures.within (grind (arith, common_steps))

pub returns-in_default-clause-read : goal.returns-in_default-clause-read
returns-in_default-clause-read g c =
    reports_call c.law_runs_follow.ensures.none
    (read_none c.law_runs_follow.ensures.none c.args.room c.read-answer.new.into (λ r. (c.read-answer.ensures.moved r).sent)
    c.read-answer.result c.in_default.not-Moved
    (λ r. (c.read-answer.ensures.moved r).received) c.read-answer.ensures.answered)
    (g.D.Sectors.moment c.device.result.now) (ap (λ d. g.D.Sectors.moment d) c.device.ensures) (λ r. (c.read-answer.ensures.moved r).departed)
    (λ t. (
      [],
      begins_nothing (pending_of c.args.hub.now c.args.s),
      (c.read-answer.ensures.moved t).sent ∙ sym (append-nil (g.S.Stream.traffic c.args.stream.now).sent),
    ))

pub returns-in-Moved-clause-keeps : goal.returns-in-Moved-clause-keeps
returns-in-Moved-clause-keeps g c some =
    record {
      spends = λ k. spends_read c.in-Moved.ensures.moved (c.in-Moved.ensures.taken k);
      adds = receives_none some c.step.ensures.step c.step.ensures.records;
    }

pub returns-in_default-clause-keeps : goal.returns-in_default-clause-keeps
returns-in_default-clause-keeps g c some =
    record { spends = λ k. spends_read c.read-answer.ensures.moved (c.read-answer.ensures.taken k); adds = none_none c.args.s c.args.hub.now }
