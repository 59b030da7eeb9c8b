use Rattle.stream_driver.proofs.driving.disconnect.Goals as goal
use Rattle.std.proofs.Common.{refl}
use Rattle.sessions.specs.SessionStreams.{Leaves}
use Rattle.stream_driver.proofs.Appends.{leaves_none}
use Rattle.stream_driver.proofs.States.{leads_event}

pub returns-clause-left : goal.returns-clause-left
returns-clause-left g c =
    leads_event c.args.hub.now c.step.new.self _ (Leaves c.args.s) c.step.result c.step.ensures.step c.step.ensures.ran c.step.ensures.device
    (λ h stands happens outcome_is after. record {
      choice = c.step.ensures.step.0;
      adds = record { run_is = refl; events_are = refl };
      counted = happens.counted;
      failed = happens.failed;
    })

pub returns-clause-records : goal.returns-clause-records
returns-clause-records g c some = leaves_none some c.step.ensures.records
