use Rattle.sessions.proofs.requests.serve_request.Goals as goal
use Rattle.std.proofs.Common.{refl, ap}
use Rattle.commit_log.specs.LogState.{log_device}
use Rattle.sessions.proofs.RequestSteps.{uses_before, uses_none, survives_head, aborts_left}

pub returns-in-Err-clause-step : goal.returns-in-Err-clause-step
returns-in-Err-clause-step g c = (
  c.in-Whole.request,
  c.in-Whole.used,
  (c.in-Whole.ensures.whole c.in-Whole.request c.in-Whole.used).0 (refl, refl),
  c.in-Err.ensures.step.0,
  aborts_left c.args.engine.now c.execute_request.new.engine c.abort_transaction.new.engine c.args.s c.in-Err.ensures.step.1 c.abort_transaction.ensures.left,
  c.in-Err.ensures.step.2,
  c.in-Err.ensures.step.3,
)

pub returns-in-Ok-clause-crash : goal.returns-in-Ok-clause-crash
returns-in-Ok-clause-crash g c =
    survives_head c.args.engine.now c.execute_request.new.engine c.execute_request.new.engine c.args.s c.args.inbox.now refl c.in-Whole.request c.in-Whole.used
    ((c.in-Whole.ensures.whole c.in-Whole.request c.in-Whole.used).0 (refl, refl)) c.execute_request.ensures.crash

pub returns-in-Err-clause-crash : goal.returns-in-Err-clause-crash
returns-in-Err-clause-crash g c =
    survives_head c.args.engine.now c.execute_request.new.engine c.abort_transaction.new.engine c.args.s c.args.inbox.now
    (ap log_device c.abort_transaction.ensures.log) c.in-Whole.request c.in-Whole.used
    ((c.in-Whole.ensures.whole c.in-Whole.request c.in-Whole.used).0 (refl, refl)) c.execute_request.ensures.crash

pub returns-in-Ok-clause-step : goal.returns-in-Ok-clause-step
returns-in-Ok-clause-step g c = (c.in-Whole.request, (c.in-Whole.ensures.whole c.in-Whole.request c.in-Whole.used).0 (refl, refl), c.in-Ok.ensures.step)

pub returns-in-Err-clause-once : goal.returns-in-Err-clause-once
returns-in-Err-clause-once g c = uses_before _ _ _ c.abort_transaction.ensures.log c.execute_request.ensures.once

pub returns-in-More-clause-once : goal.returns-in-More-clause-once
returns-in-More-clause-once g c = uses_none _ _ refl

pub returns-in-Bad-clause-once : goal.returns-in-Bad-clause-once
returns-in-Bad-clause-once g c = uses_none _ _ c.abort_transaction-in-Bad.ensures.log
