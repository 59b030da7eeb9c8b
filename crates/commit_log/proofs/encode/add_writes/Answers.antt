use Rattle.commit_log.proofs.encode.add_writes.Goals as goal
use Rattle.std.proofs.Common.{◌++◌, ◌∙◌, List, ap, arith, append_assoc, length-append}
use Rattle.std.proofs.lemmas.Grind.{common_steps}
use Rattle.std.proofs.lemmas.List.{take_all}
use Rattle.std.specs.List.{flat_map}
use Rattle.model.specs.Map.{KeyWrite}
use Rattle.commit_log.proofs.Encoding.{entries-more, entry_size, payload_size-more, payload_size_le}
use Rattle.commit_log.specs.RecordFormat.{entry_bytes}

pub add_entry-requires : goal.add_entry-requires
add_entry-requires c = grind (arith, payload_size-more, payload_size_le)

pub loop-write-preserved : goal.loop-write-preserved
loop-write-preserved c = grind (arith, common_steps, length-append, payload_size-more, append_assoc, entries-more, entry_size)

pub returns-clause-items : goal.returns-clause-items
returns-clause-items c =
    c.loop-write.invariant.items
    ∙ ap (λ (ws : List KeyWrite). c.args.body.now.items
    ++ flat_map entry_bytes ws) (take_all c.loop-write.write-index c.args.writes.now c.loop-write-test.false)
