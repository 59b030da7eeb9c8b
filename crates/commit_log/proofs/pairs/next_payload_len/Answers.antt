use Rattle.commit_log.proofs.pairs.next_payload_len.Goals as goal
use Rattle.std.proofs.Common.{arith}
use Rattle.std.proofs.lemmas.Grind.{common_steps}
use Rattle.commit_log.proofs.Putting.{next_pair, not_none}

pub unreachable-requires : goal.unreachable-requires
unreachable-requires c =
    not_none c.args.pairs.now c.loop-i.pairs c.loop-i.i c.args.count c.loop-i.invariant.rest c.in_default.ensures.steps.0 c.loop-i-test.true
    c.requires.next.there

pub entry_len-len-requires : goal.entry_len-len-requires
entry_len-len-requires c =
    let p = next_pair c.args.pairs.now c.loop-i.i c.loop-i.pairs c.next.new.self (
      c.in-Some.key.bytes.now,
      c.in-Some.value.now,
    ) c.loop-i.invariant.rest c.in-Some.ensures.steps c.requires.next.in_bounds in
    p.value

pub loop-i-preserved : goal.loop-i-preserved
loop-i-preserved c =
    let p = next_pair c.args.pairs.now c.loop-i.i c.loop-i.pairs c.next.new.self (
      c.in-Some.key.bytes.now,
      c.in-Some.value.now,
    ) c.loop-i.invariant.rest c.in-Some.ensures.steps c.requires.next.in_bounds in
    grind (arith, common_steps)
