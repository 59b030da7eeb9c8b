use Rattle.event_loop.proofs.connections.any_ready.Goals as goal
use Rattle.std.proofs.Common.{ap, arith, ◌∙◌}
use Rattle.std.specs.List.{list_any}
use Rattle.event_loop.specs.Tables.{is_ready}

pub loop-key-init : goal.loop-key-init
loop-key-init c = (tt, tt, ap (list_any (λ e. is_ready e.1.state)) (c.into_iter-key-iterator.ensures.into_iter_gives ∙ c.iter-key-items.ensures.rest))

pub loop-key-preserved : goal.loop-key-preserved
loop-key-preserved c = (tt, tt, grind (arith, ap (list_any (λ e. is_ready e.1.state)) c.in-Some.ensures.steps))

pub returns-then-is_ready : goal.returns-then-is_ready
returns-then-is_ready c = grind (arith, ap (list_any (λ e. is_ready e.1.state)) c.in-Some.ensures.steps)
