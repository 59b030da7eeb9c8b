use Rattle.sessions.proofs.hub.Hub.law_restarts_lose_nothing.Goals as goal
use Rattle.std.proofs.Common.{[], refl}
use Rattle.sessions.proofs.RestartLaws.{cuts_reopen, from_disk, one_history}

pub returns-clause-restarts : goal.returns-clause-restarts
returns-clause-restarts g c keeps = from_disk c.args.self.now g.met.D.Sectors.only_now g.met.D.Sectors.counts_now keeps

pub returns-clause-from_nothing : goal.returns-clause-from_nothing
returns-clause-from_nothing g c keeps disk restarts empty follow =
    from_disk c.args.self.now g.met.D.Sectors.only_now g.met.D.Sectors.counts_now keeps disk [] restarts ([], empty, refl) follow

pub returns-clause-cut : goal.returns-clause-cut
returns-clause-cut g c = cuts_reopen c.args.self.now

pub returns-clause-one_history : goal.returns-clause-one_history
returns-clause-one_history g c keeps =
    one_history c.args.self.now g.met.D.Sectors.only_now g.met.D.Sectors.counts_now keeps c.law_restarts_have_one_order.ensures.order
