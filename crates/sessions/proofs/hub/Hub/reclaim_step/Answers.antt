use Rattle.sessions.proofs.hub.Hub.reclaim_step.Goals as goal
use Rattle.std.proofs.Common.{ap}
use Rattle.commit_log.specs.LogState.{log_device, is_log_stopped}
use Rattle.sessions.proofs.Runs.{sound}

pub returns : goal.returns
returns g c = let law = c.law_machine_is_serializable.ensures in record {
  ran = (
    sound c.args.self.now law.serializable law.places c.law_is_stored.ensures,
    sound _ law.serializable law.places c.law_is_stored-2.ensures,
    record {
      stands = λ h s. record {
        engine = c.reclaim_step-more.ensures.keeps.stands h.machine s.engine;
        sessions = s.sessions;
        latest = s.latest;
        reached =
            s.reached;
      };
      device_is = ap log_device c.reclaim_step-more.ensures.keeps.log;
      stopped_is = ap is_log_stopped c.reclaim_step-more.ensures.keeps.log;
    },
  );
  versions = λ h s. c.reclaim_step-more.ensures.versions h.machine s.engine;
  more_is = λ h s. c.reclaim_step-more.ensures.still h.machine s.engine;
  runs = c.reclaim_step-more.ensures.frees_runs;
  forgotten = λ h s. c.reclaim_step-more.ensures.forgotten h.machine s.engine;
  kept = c.reclaim_step-more.ensures.kept;
}
