use Rattle.sessions.proofs.hub.Hub.law_is_lawful.Goals as goal
use Rattle.sessions.proofs.Runs.{lawful_at}
use Rattle.sessions.proofs.StreamLaws.{machine_reached}

pub returns-clause-lawful : goal.returns-clause-lawful
returns-clause-lawful g c h stands = lawful_at c.law_machine_is_serializable.ensures.serializable h stands.reached

pub returns-clause-ordered : goal.returns-clause-ordered
returns-clause-ordered g c h stands = c.law_machine_is_serializable.ensures.places h.machine (machine_reached h stands.reached)
