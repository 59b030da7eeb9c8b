use Rattle.commit_log.proofs.pairs.add_pairs.Goals as goal
use Rattle.std.proofs.Common.{◌≡◌, ◌++◌, ℕ, List, Some, take, arith, append_assoc, length-append}
use Rattle.std.proofs.lemmas.Grind.{common_steps}
use Rattle.std.specs.List.{flat_map}
use Rattle.model.specs.Map.{Bytes}
use Rattle.commit_log.proofs.Encoding.{entry_size}
use Rattle.commit_log.proofs.Putting.{next_pair, not_none, size_le}
use Rattle.commit_log.specs.Copying.{puts}
use Rattle.commit_log.specs.RecordFormat.{entry_bytes}

pub unreachable-requires : goal.unreachable-requires
unreachable-requires c =
    not_none c.args.pairs.now c.loop-i.pairs c.loop-i.i c.args.count c.loop-i.invariant.rest c.in_default.ensures.steps.0 c.loop-i-test.true
    c.requires.next.there

pub add_entry-requires : goal.add_entry-requires
add_entry-requires c =
    let p = next_pair c.args.pairs.now c.loop-i.i c.loop-i.pairs c.next.new.self (
      c.in-Some.key.bytes.now,
      c.in-Some.value.now,
    ) c.loop-i.invariant.rest c.in-Some.ensures.steps c.requires.next.in_bounds in
    grind (arith, common_steps, size_le)

pub loop-i-preserved : goal.loop-i-preserved
loop-i-preserved c =
    let pair : Bytes × Bytes = (c.in-Some.key.bytes.now, c.in-Some.value.now) in
    let p = next_pair c.args.pairs.now c.loop-i.i c.loop-i.pairs c.next.new.self pair c.loop-i.invariant.rest c.in-Some.ensures.steps c.requires.next.in_bounds
    in
    let so_far : List ℕ = flat_map entry_bytes (puts (take c.loop-i.i c.args.pairs.now)) in
    let entry : List ℕ = entry_bytes (pair.0, Some pair.1) in
    let added : c.add_entry.new.body.items ≡ c.loop-i.body.items ++ entry = c.add_entry.ensures.items in
    grind (arith, common_steps, append_assoc, length-append, entry_size)

pub returns-clause-items : goal.returns-clause-items
returns-clause-items c = grind (arith, common_steps)
