use Rattle.sessions.proofs.requests.get.Goals as goal
use Rattle.std.proofs.Common.{refl}
use Rattle.model.specs.Operations.{Get}
use Rattle.sessions.proofs.RequestSteps.{executes_read, executes_refused}

pub returns-in-Ok-clause-step : goal.returns-in-Ok-clause-step
returns-in-Ok-clause-step g c =
    let kept = rw c.in-Ok.is at c.get.follows.holds-at-none in
    executes_read c.args.engine.now c.get.follows.lender-at-none c.args.s (Get c.args.key.bytes.now) _ c.write_value.new.self
    c.write_value.result refl refl kept.0 refl c.write_value.ensures.ok c.write_value.ensures.err

pub returns-in-Err-clause-step : goal.returns-in-Err-clause-step
returns-in-Err-clause-step g c =
    executes_refused c.args.engine.now c.get.follows.lender-at-none c.args.s (Get c.args.key.bytes.now) _ c.get.result c.in-Err.fault _
    c.write_read_fault.result refl c.in-Err.is c.get.follows.holds-at-none.0 c.write_read_fault.ensures
