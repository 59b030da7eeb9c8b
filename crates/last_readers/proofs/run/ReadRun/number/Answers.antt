use Rattle.last_readers.proofs.run.ReadRun.number.Goals as goal
use Rattle.last_readers.proofs.StepLaws.{rises_left, rises_right}

pub number_from-requires : goal.number_from-requires
number_from-requires c = let r = c.args.self.now in rises_left r.first.items r.made.items r.first_rises

pub number_from-requires-2 : goal.number_from-requires-2
number_from-requires-2 c = let r = c.args.self.now in rises_left r.second.items r.made.items r.second_rises

pub number_from-requires-3 : goal.number_from-requires-3
number_from-requires-3 c = let r = c.args.self.now in rises_right r.first.items r.made.items r.first_rises
