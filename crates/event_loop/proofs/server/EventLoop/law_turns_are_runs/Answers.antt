use Rattle.event_loop.proofs.server.EventLoop.law_turns_are_runs.Goals as goal
use Rattle.stream_driver.proofs.States.{are_runs}

pub returns : goal.returns
returns g c = record { runs = λ old new turn. are_runs old.hub new.hub _ turn.run }
