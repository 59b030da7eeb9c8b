use Rattle.phenomena.proofs.law_histories_have_no_phenomena.Goals as goal
use Rattle.phenomena.proofs.Laws.{no_phenomena, reads_law}

pub returns-clause-reads : goal.returns-clause-reads
returns-clause-reads c = reads_law c.law_machine_is_serializable.ensures.serializable

pub returns-clause-cycles : goal.returns-clause-cycles
returns-clause-cycles c =
    no_phenomena c.law_machine_is_serializable.ensures.serializable c.law_machine_is_serializable.ensures.places
    c.law_history_has_serial_order.ensures.real_time
