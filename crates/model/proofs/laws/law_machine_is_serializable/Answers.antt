use Rattle.model.proofs.laws.law_machine_is_serializable.Goals as goal
use Rattle.model.proofs.Machines.{machine_law, places_law}

pub returns : goal.returns
returns c = record { serializable = machine_law; places = places_law }
