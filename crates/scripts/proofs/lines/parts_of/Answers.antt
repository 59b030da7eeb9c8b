use Rattle.scripts.proofs.lines.parts_of.Goals as goal
use Rattle.std.proofs.Common.{arith}
use Rattle.scripts.proofs.Lent.{parts_more, parts_all}

pub loop-i-preserved : goal.loop-i-preserved
loop-i-preserved c = parts_more c.args.words.now c.loop-i.parts c.loop-i.i _ c.part_of.result c.loop-i.invariant (omega arith) c.part_of.ensures

pub returns : goal.returns
returns c = parts_all c.args.words.now c.loop-i.parts c.loop-i.i c.loop-i.invariant (omega arith)
