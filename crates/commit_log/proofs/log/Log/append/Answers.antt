use Rattle.commit_log.proofs.log.Log.append.Goals as goal
use Rattle.std.proofs.Common.{arith}
use Rattle.std.proofs.lemmas.Grind.{common_steps}
use Rattle.commit_log.proofs.Encoding.{payload_size_is, body_sectors_is}
use Rattle.commit_log.proofs.Protocol.{no_room_if}

pub returns-then-not-room-clause-full : goal.returns-then-not-room-clause-full
returns-then-not-room-clause-full g c = grind (arith, common_steps, body_sectors_is, payload_size_is, no_room_if)
