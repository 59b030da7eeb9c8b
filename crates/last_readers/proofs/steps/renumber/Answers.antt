use Rattle.last_readers.proofs.steps.renumber.Goals as goal
use Rattle.std.proofs.Common.{ap, arith, ◌∙◌}
use Rattle.std.proofs.Math.ListN.{set}
use Rattle.std.proofs.lemmas.List.Edits.{map_over_more}
use Rattle.last_readers.specs.Steps.{renumbered}

pub loop-i-preserved : goal.loop-i-preserved
loop-i-preserved c =
    ap (set c.loop-i.steps.items c.loop-i.i) c.renumber.ensures
    ∙ map_over_more (renumbered c.args.number) c.args.steps.now.items c.loop-i.steps.items c.loop-i.i c.index_mut.result.now (omega arith) c.loop-i.invariant
    c.index_mut.ensures.value
