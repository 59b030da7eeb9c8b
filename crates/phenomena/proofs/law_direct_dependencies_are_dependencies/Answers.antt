use Rattle.phenomena.proofs.law_direct_dependencies_are_dependencies.Goals as goal
use Rattle.phenomena.proofs.Laws.{direct_is_dependency}

pub returns : goal.returns
returns c = direct_is_dependency c.law_machine_is_serializable.ensures.serializable
