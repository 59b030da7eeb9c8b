use Rattle.sessions.proofs.requests.abort.Goals as goal
use Rattle.model.specs.Operations.{Abort}
use Rattle.sessions.proofs.RequestSteps.{executes_ended}

pub returns-clause-step : goal.returns-clause-step
returns-clause-step g c =
    executes_ended c.args.engine.now c.abort-answer.new.self c.reclaim_step.new.self c.args.s Abort c.abort-answer.result _ c.write_done.result
    c.abort-answer.ensures.answered c.abort-answer.ensures.step
    c.reclaim_step.ensures.keeps.stands c.write_done.ensures
