use Rattle.engine.proofs.engine.Engine.law_is_lawful.Goals as goal

pub returns-clause-lawful : goal.returns-clause-lawful
returns-clause-lawful g c m stands = let law = c.law_machine_is_serializable.ensures.serializable m stands.reached in (stands.reached, law.0, law.1)

pub returns-clause-ordered : goal.returns-clause-ordered
returns-clause-ordered g c m stands = c.law_machine_is_serializable.ensures.places m stands.reached
