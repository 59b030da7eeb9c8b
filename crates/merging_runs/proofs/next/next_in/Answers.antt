use Rattle.merging_runs.proofs.next.next_in.Goals as goal
use Rattle.std.proofs.Common.{◌+◌, arith}
use Rattle.merging_runs.proofs.NextNumbers.{first_all, first_more, first_none}

pub loop-run-init : goal.loop-run-init
loop-run-init g c p is = first_none g.R.Run.has c.args.runs.now p c.args.n c.args.found is

pub loop-run-preserved : goal.loop-run-preserved
loop-run-preserved g c p is =
    first_more g.R.Run.has c.args.runs.now c.loop-run.run-index (c.loop-run.run-index + 1) c.run-item.result p c.args.n c.next_number-found.result
    (omega arith) c.loop-run-test.true c.run-item.is
    (c.next_number-found.ensures _ (c.loop-run.invariant p is))

pub returns : goal.returns
returns g c p is = first_all g.R.Run.has c.args.runs.now c.loop-run.run-index p c.args.n c.loop-run.found (omega arith) (c.loop-run.invariant p is)
