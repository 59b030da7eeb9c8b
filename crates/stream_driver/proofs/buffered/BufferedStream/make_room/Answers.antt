use Rattle.stream_driver.proofs.buffered.BufferedStream.make_room.Goals as goal
use Rattle.std.proofs.Common.{arith}
use Rattle.stream_driver.proofs.Buffering.{room_after, room_flushed}

pub returns-clause-why : goal.returns-clause-why
returns-clause-why g c = room_after g.S.Stream.traffic c.flush.result c.args.self.now c.flush.new.self c.flush.ensures.flushed.why

pub returns-clause-failed : goal.returns-clause-failed
returns-clause-failed g c = room_flushed c.args.self.now c.flush.result c.flush.new.self (omega arith) c.flush.ensures.flushed.failed
