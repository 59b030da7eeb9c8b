use Rattle.sessions.proofs.hub.Hub.law_replies_have_one_reading.Goals as goal
use Rattle.sessions.proofs.Readings.{runs_have_one_reading}

pub returns : goal.returns
returns g c = runs_have_one_reading c.args.self.now
