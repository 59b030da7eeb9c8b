use Rattle.system.proofs.ports.SystemServer.law_serves_in_one_run.Goals as goal
use Rattle.std.proofs.Math.Logic.{∥∥₁_map}
use Rattle.system.proofs.OneRun.{turns_ended}

pub returns : goal.returns
returns g c = record {
  run = λ t result last reported ends.
      let turns = turns_ended g.E.Lines.writes c.args.self.now c.args.err.now result last reported ends in
      ∥∥₁_map (c.law_all_have_one_run.ensures.run t last.events turns) (λ one. (turns, one.0, one.1));
}
