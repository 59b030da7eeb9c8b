use Rattle.last_readers.proofs.naming.next_named.Goals as goal
use Rattle.std.proofs.Common.{◌+◌, arith}
use Rattle.merging_runs.proofs.NextNumbers.{first_all, first_more, first_none}
use Rattle.last_readers.specs.Steps.{names}

pub loop-i-init : goal.loop-i-init
loop-i-init c p is = first_none names c.args.steps.now.items p c.args.n c.args.found is

pub loop-i-preserved : goal.loop-i-preserved
loop-i-preserved c p is =
    first_more names c.args.steps.now.items c.loop-i.i (c.loop-i.i + 1) c.at.result.now p c.args.n c.next_in-found.result (omega arith)
    (omega arith) c.at.ensures
    (c.next_in-found.ensures _ (c.loop-i.invariant p is))

pub returns : goal.returns
returns c p is = first_all names c.args.steps.now.items c.loop-i.i p c.args.n c.loop-i.found (omega arith) (c.loop-i.invariant p is)
