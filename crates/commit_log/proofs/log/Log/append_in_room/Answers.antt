use Rattle.commit_log.proofs.log.Log.append_in_room.Goals as goal
use Rattle.std.proofs.Common.{◌≤◌, length, refl, arith}
use Rattle.std.proofs.lemmas.Grind.{common_steps}
use Rattle.model.specs.Bounds.{value_max, payload_bound}
use Rattle.commit_log.proofs.Encoding.{payload_size_is, length-payload_le}
use Rattle.commit_log.proofs.Protocol.{next_record, stands_after}
use Rattle.commit_log.specs.Format.{current}
use Rattle.commit_log.specs.RecordFormat.{payload_bytes}

pub encode-requires-clause-bound : goal.encode-requires-clause-bound
encode-requires-clause-bound g c =
    let most : length (payload_bytes c.args.writes.now) ≤ payload_bound value_max = length-payload_le current c.args.writes.now c.requires.proper in
    omega (arith, c.requires.len, payload_size_is c.args.writes.now, most)

pub write_record-requires : goal.write_record-requires
write_record-requires g c = grind (arith, common_steps)

pub overflow_add-self-in-Ok : goal.overflow_add-self-in-Ok
overflow_add-self-in-Ok g c = grind (arith, common_steps)

pub invariant_of-self-in-Ok : goal.invariant_of-self-in-Ok
invariant_of-self-in-Ok g c = grind (arith, common_steps)

pub returns-in-Err-clause-keeps : goal.returns-in-Err-clause-keeps
returns-in-Err-clause-keeps g c keeps = record {
  added = λ lists stands. search;
  any_moment = λ lists stands.
      let next = next_record _ lists c.args.writes.now _ _ stands c.requires.proper c.in_ok-body.ensures.body c.in_ok-body.ensures.sectors c.deref.ensures.value
      in
      c.write_record.ensures.any_moment keeps lists c.args.writes.now next stands.left;
  left = λ lists stands crash left.
      let next = next_record _ lists c.args.writes.now _ _ stands c.requires.proper c.in_ok-body.ensures.body c.in_ok-body.ensures.sectors c.deref.ensures.value
      in
      let run = c.write_record.ensures.any_moment keeps lists c.args.writes.now next stands.left in
      run.each crash (g.met.D.Sectors.counts_now keeps c.write_record.new.device (g.D.Sectors.moment c.args.self.now.device) crash run.later left);
  alone = grind (arith, common_steps);
}

pub returns-clause-keeps : goal.returns-clause-keeps
returns-clause-keeps g c keeps = record {
  added = λ lists stands.
      let next = next_record _ lists c.args.writes.now _ _ stands c.requires.proper c.in_ok-body.ensures.body c.in_ok-body.ensures.sectors c.deref.ensures.value
      in
      let left = c.in-Ok.ensures.acknowledged keeps lists c.args.writes.now next stands.left in
      stands_after c.args.self.now _ lists c.args.writes.now stands c.requires.running
      (omega (arith, c.len.ensures, c.in_ok-body.body.ok.0, c.in_ok-body.ensures.sectors)) refl c.in_ok-body.ensures.digest left;
  any_moment = λ lists stands.
      let next = next_record _ lists c.args.writes.now _ _ stands c.requires.proper c.in_ok-body.ensures.body c.in_ok-body.ensures.sectors c.deref.ensures.value
      in
      c.write_record.ensures.any_moment keeps lists c.args.writes.now next stands.left;
  left = λ lists stands crash left.
      let next = next_record _ lists c.args.writes.now _ _ stands c.requires.proper c.in_ok-body.ensures.body c.in_ok-body.ensures.sectors c.deref.ensures.value
      in
      let run = c.write_record.ensures.any_moment keeps lists c.args.writes.now next stands.left in
      run.each crash (g.met.D.Sectors.counts_now keeps c.write_record.new.device (g.D.Sectors.moment c.args.self.now.device) crash run.later left);
  alone = grind (arith, common_steps);
}
