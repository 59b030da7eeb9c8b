use Rattle.sessions.proofs.requests.commit.Goals as goal
use Rattle.std.proofs.Common.{refl, ap, ◌∙◌, Err}
use Rattle.commit_log.specs.LogState.{log_device}
use Rattle.engine.proofs.Calls.{stands_still}
use Rattle.sessions.proofs.RequestSteps.{uses_before, survives_after, executes_commit}

pub returns-in-Ok-clause-crash : goal.returns-in-Ok-clause-crash
returns-in-Ok-clause-crash g c =
    survives_after c.args.engine.now c.commit.new.self c.reclaim_step.new.self c.args.s (ap log_device c.reclaim_step.ensures.keeps.log)
    c.commit.ensures.crash

pub returns-in-Err-Refused-clause-crash : goal.returns-in-Err-Refused-clause-crash
returns-in-Err-Refused-clause-crash g c =
    survives_after c.args.engine.now c.commit.new.self c.reclaim_step-in-Err-Refused.new.self c.args.s
    (ap log_device c.reclaim_step-in-Err-Refused.ensures.keeps.log) c.commit.ensures.crash

pub returns-in-Ok-clause-step : goal.returns-in-Ok-clause-step
returns-in-Ok-clause-step g c =
    executes_commit c.args.engine.now c.commit.new.self c.reclaim_step.new.self c.args.s _ _ c.write_brief.result
    (ap log_device c.reclaim_step.ensures.keeps.log) c.in-Ok.ensures.step c.reclaim_step.ensures.keeps.stands c.write_brief.ensures

pub returns-in-Err-Refused-clause-step : goal.returns-in-Err-Refused-clause-step
returns-in-Err-Refused-clause-step g c =
    executes_commit c.args.engine.now c.commit.new.self c.reclaim_step-in-Err-Refused.new.self c.args.s _ _ c.write_brief-in-Err-Refused.result
    (ap log_device c.reclaim_step-in-Err-Refused.ensures.keeps.log)
    (rw c.in-Err-Refused.field-0-is at c.in-Err-Refused.ensures.step) c.reclaim_step-in-Err-Refused.ensures.keeps.stands c.write_brief-in-Err-Refused.ensures

pub returns-in-Err-Memory-clause-step : goal.returns-in-Err-Memory-clause-step
returns-in-Err-Memory-clause-step g c =
    let same = rw (c.in-Err-Memory.is ∙ ap Err c.in-Err-Memory.field-0-is) at c.commit.ensures.step in
    (refl, (λ m h. (m, stands_still c.args.engine.now c.commit.new.self same.0 m h, refl)), c.requires, same.1)

pub returns-in-Ok-clause-once : goal.returns-in-Ok-clause-once
returns-in-Ok-clause-once g c =
    uses_before c.args.engine.now.log c.commit.new.self.log c.reclaim_step.new.self.log c.reclaim_step.ensures.keeps.log
    (record { still = c.commit.ensures.still; failures = c.commit.ensures.device; records = c.commit.ensures.appends.once })

pub returns-in-Err-Refused-clause-once : goal.returns-in-Err-Refused-clause-once
returns-in-Err-Refused-clause-once g c =
    uses_before c.args.engine.now.log c.commit.new.self.log c.reclaim_step-in-Err-Refused.new.self.log c.reclaim_step-in-Err-Refused.ensures.keeps.log
    (record { still = c.commit.ensures.still; failures = c.commit.ensures.device; records = c.commit.ensures.appends.once })

pub returns-in-Err-Memory-clause-once : goal.returns-in-Err-Memory-clause-once
returns-in-Err-Memory-clause-once g c = record {
  still = c.commit.ensures.still;
  failures = c.commit.ensures.device;
  records = c.commit.ensures.appends.once;
}
