use Rattle.sessions.proofs.hub.Hub.step.Goals as goal
use Rattle.sessions.proofs.Records.{counts}
use Rattle.sessions.proofs.Runs.{survives, alone, sound}
use Rattle.sessions.specs.StandsFor.{event_of}

pub returns-clause-crash : goal.returns-clause-crash
returns-clause-crash g c =
    survives c.args.self.now c.apply-outcome.new.self (event_of c.args.event.now) g.met.D.Sectors.only_now c.law_is_stored.ensures c.apply-outcome.ensures.crash

pub returns-clause-ran : goal.returns-clause-ran
returns-clause-ran g c =
    let law = c.law_machine_is_serializable.ensures in
    alone c.args.self.now c.apply-outcome.new.self (event_of c.args.event.now)
    (sound c.args.self.now law.serializable law.places c.law_is_stored.ensures)
    (sound c.apply-outcome.new.self law.serializable law.places c.law_is_stored-2.ensures) c.apply-outcome.ensures.once.failures
    (survives c.args.self.now c.apply-outcome.new.self (event_of c.args.event.now) g.met.D.Sectors.only_now c.law_is_stored.ensures
    c.apply-outcome.ensures.crash)
    c.apply-outcome.ensures.once.still

pub returns-clause-asks : goal.returns-clause-asks
returns-clause-asks g c = record {
  still = c.apply-outcome.ensures.once.still;
  few = c.apply-outcome.ensures.once.records.syncs;
  quiet = c.apply-outcome.ensures.once.records.quiet;
}

pub returns-clause-records : goal.returns-clause-records
returns-clause-records g c =
    counts c.args.self.now c.apply-outcome.new.self (event_of c.args.event.now) c.apply-outcome.result c.apply-outcome.ensures.step
    c.apply-outcome.ensures.once.records
