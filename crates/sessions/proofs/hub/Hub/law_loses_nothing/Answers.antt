use Rattle.sessions.proofs.hub.Hub.law_loses_nothing.Goals as goal
use Rattle.sessions.proofs.RestartLaws.{keeps_answered}
use Rattle.sessions.proofs.Runs.{law_loses_nothing}

pub returns-clause-crash : goal.returns-clause-crash
returns-clause-crash g c keeps = law_loses_nothing c.args.self.now g.met.D.Sectors.only_now g.met.D.Sectors.counts_now keeps

pub returns-clause-answered : goal.returns-clause-answered
returns-clause-answered g c = keeps_answered c.args.self.now g.met.D.Sectors.only_now g.met.D.Sectors.counts_now
