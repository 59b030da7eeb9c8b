use Rattle.stream_driver.proofs.laws.law_leads_are_runs.Goals as goal
use Rattle.stream_driver.proofs.States.{are_runs}

pub returns : goal.returns
returns g c = record { runs = λ old new leads. are_runs old new (λ h k. Unit {0}) leads }
