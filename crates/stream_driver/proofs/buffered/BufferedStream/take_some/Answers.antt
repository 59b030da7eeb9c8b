use Rattle.stream_driver.proofs.buffered.BufferedStream.take_some.Goals as goal
use Rattle.std.proofs.Common.{rules, ◌≡◌, ◌<◌, [], length, arith}
use Rattle.std.proofs.lemmas.Grind.{common_steps}
use Rattle.stream_driver.proofs.Buffering.{takes_in, takes_on, takes_why}
use Rattle.stream_driver.proofs.Waiting.{short_then}
use Rattle.stream_driver.specs.Buffers.{buffered_in, buffer_room}

pub returns-then-is_empty : goal.returns-then-is_empty
returns-then-is_empty g c =
    let none : buffered_in c.make_room.new.self.buffered ≡ [] = search rules in
    record {
      takes = takes_on c.in-All.ensures.kept c.in-All.ensures.failed none c.write.ensures.within
          (λ r. (c.write.ensures.moved r).received) (λ r. (c.write.ensures.moved r).sent)
          (λ r. (c.write.ensures.moved r).departed);
      why = takes_why g.S.Stream.traffic c.args.self.now c.make_room.new.self c.write.result c.in-All.ensures.why.1 c.write.ensures.answered;
      short = short_then c.in-All.ensures.short c.write.ensures.stays.short;
    }

pub returns : goal.returns
returns g c =
    let some : 0 < length c.args.from.now = grind (arith, common_steps) in
    let room : 0 < buffer_room c.make_room.new.self.buffered = c.in-All.ensures.why.0 in
    let count = c.put.ensures.count in
    record {
      takes = takes_in c.in-All.ensures.kept c.in-All.ensures.failed c.put.new.self (
        grind (arith, common_steps),
        grind (arith, common_steps),
      ) c.put.ensures.bytes;
      why = c.in-All.ensures.why.1;
      short = c.in-All.ensures.short;
    }
