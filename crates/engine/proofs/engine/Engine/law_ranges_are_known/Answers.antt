use Rattle.engine.proofs.engine.Engine.law_ranges_are_known.Goals as goal
use Rattle.engine.proofs.Reclaims.{begins_known}

pub returns : goal.returns
returns g c m h =
    let e = c.args.self.now in
    begins_known e.history.committed.facts h.active m.base m.history e.history.versions h.history.versions.known e.running.entries m.running h.running
