use Rattle.sessions.proofs.requests.execute.Goals as goal
use Rattle.std.proofs.Common.{refl}
use Rattle.sessions.proofs.RequestSteps.{uses_none, executes_flag, executes_from, executes_always}

pub returns-in-Begin-clause-step : goal.returns-in-Begin-clause-step
returns-in-Begin-clause-step g c =
    rw c.in-Begin.is (executes_flag _ _ _ _ _ _ _ refl (executes_from _ _ _ _ _ _ _ _ refl c.begin-answer.ensures.step c.write_done.ensures))

pub returns-in-Get-clause-step : goal.returns-in-Get-clause-step
returns-in-Get-clause-step g c = rw c.in-Get.is (executes_flag _ _ _ _ _ _ _ refl c.get.ensures.step)

pub returns-in-Set-clause-step : goal.returns-in-Set-clause-step
returns-in-Set-clause-step g c =
    rw c.in-Set.is (executes_flag _ _ _ _ _ _ _ refl (executes_from _ _ _ _ _ _ _ _ refl c.set-answer.ensures.step c.write_done-in-Set.ensures))

pub returns-in-Del-clause-step : goal.returns-in-Del-clause-step
returns-in-Del-clause-step g c =
    rw c.in-Del.is (executes_flag _ _ _ _ _ _ _ refl (executes_from _ _ _ _ _ _ _ _ refl c.del-answer.ensures.step c.write_done-in-Del.ensures))

pub returns-in-Range-clause-step : goal.returns-in-Range-clause-step
returns-in-Range-clause-step g c = rw c.in-Range.is (executes_flag _ _ _ _ _ _ _ refl c.range.ensures.step)

pub returns-in-Abort-clause-step : goal.returns-in-Abort-clause-step
returns-in-Abort-clause-step g c = rw c.in-Abort.is (executes_flag _ _ _ _ _ _ _ refl c.abort.ensures.step)

pub returns-in-Ping-clause-step : goal.returns-in-Ping-clause-step
returns-in-Ping-clause-step g c =
    rw c.in-Ping.is (executes_flag _ _ _ _ _ _ _ refl (executes_always _ _ _ _ _ _ _ _ c.law_passes.ensures.ping c.write_brief.ensures))

pub returns-in-Begin-clause-once : goal.returns-in-Begin-clause-once
returns-in-Begin-clause-once g c = uses_none _ _ c.begin-answer.ensures.log

pub returns-in-Get-clause-once : goal.returns-in-Get-clause-once
returns-in-Get-clause-once g c = uses_none _ _ c.get.ensures.log

pub returns-in-Set-clause-once : goal.returns-in-Set-clause-once
returns-in-Set-clause-once g c = uses_none _ _ c.set-answer.ensures.log

pub returns-in-Del-clause-once : goal.returns-in-Del-clause-once
returns-in-Del-clause-once g c = uses_none _ _ c.del-answer.ensures.log

pub returns-in-Range-clause-once : goal.returns-in-Range-clause-once
returns-in-Range-clause-once g c = uses_none _ _ c.range.ensures.log

pub returns-in-Abort-clause-once : goal.returns-in-Abort-clause-once
returns-in-Abort-clause-once g c = uses_none _ _ c.abort.ensures.log

pub returns-in-Ping-clause-once : goal.returns-in-Ping-clause-once
returns-in-Ping-clause-once g c = uses_none _ _ refl
