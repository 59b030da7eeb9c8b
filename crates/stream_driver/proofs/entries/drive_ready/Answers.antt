use Rattle.stream_driver.proofs.entries.drive_ready.Goals as goal
use Rattle.std.proofs.Common.{arith}
use Rattle.stream_driver.proofs.Turns.{none_is_last}

pub returns-clause-driven : goal.returns-clause-driven
returns-clause-driven g c =
    let cap = c.capacity.ensures.slots in
    none_is_last g.S.Stream.reports g.S.Stream.traffic c.capacity.result (omega arith) c.drive_ready_then.ensures.driven
