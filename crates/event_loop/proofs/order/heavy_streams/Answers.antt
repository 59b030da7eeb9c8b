use Rattle.event_loop.proofs.order.heavy_streams.Goals as goal
use Rattle.std.proofs.Common.{arith, ◌∙◌}
use Rattle.event_loop.proofs.Widths.{heavy_over}

pub returns : goal.returns
returns c =
    c.loop-key.invariant.0
    ∙ heavy_over c.args.table.now.slots c.loop-key.key (omega (arith, c.capacity-key-end.ensures.slots, c.loop-key-test.false))
