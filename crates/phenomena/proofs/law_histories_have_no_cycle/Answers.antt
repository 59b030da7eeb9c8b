use Rattle.phenomena.proofs.law_histories_have_no_cycle.Goals as goal
use Rattle.phenomena.proofs.Laws.{no_cycle}

pub returns : goal.returns
returns c = no_cycle c.law_machine_is_serializable.ensures.serializable c.law_machine_is_serializable.ensures.places
    c.law_history_has_serial_order.ensures.real_time
