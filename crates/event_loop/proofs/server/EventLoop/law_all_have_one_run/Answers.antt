use Rattle.event_loop.proofs.server.EventLoop.law_all_have_one_run.Goals as goal
use Rattle.event_loop.proofs.AllThatLeft.{have_one_run}

pub returns : goal.returns
returns g c = record {
  run = have_one_run c.args.self.now c.law_loses_nothing.ensures.crash g.met.D.Sectors.only_now g.met.D.Sectors.counts_now;
}
