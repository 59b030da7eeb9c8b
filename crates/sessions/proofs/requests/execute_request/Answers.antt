use Rattle.sessions.proofs.requests.execute_request.Goals as goal
use Rattle.std.proofs.Common.{◌≡◌, refl, ap}
use Rattle.model.specs.Operations.{Faulty}
use Rattle.sessions.proofs.RequestSteps.{uses_none, executes_flag, executes_always}
use Rattle.sessions.specs.SessionStreams.{asks, or_faulty}

pub returns-in-Err-clause-step : goal.returns-in-Err-clause-step
returns-in-Err-clause-step g c =
    let fault : asks c.args.request.now ≡ Faulty c.in-Err.refusal = ap or_faulty c.in-Err.ensures.meant in
    rw fault (executes_flag _ _ _ _ _ _ _ refl (executes_always _ _ _ _ _ _ _ _ (c.law_passes.ensures.faulty c.in-Err.refusal) c.write_brief.ensures))

pub returns-in-Err-clause-once : goal.returns-in-Err-clause-once
returns-in-Err-clause-once g c = uses_none _ _ refl
