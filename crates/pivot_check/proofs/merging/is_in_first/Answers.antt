use Rattle.pivot_check.proofs.merging.is_in_first.Goals as goal
use Rattle.std.proofs.Common.{◌+◌, drop, arith}
use Rattle.model.proofs.KeyOrder.{lt_of_not_le}
use Rattle.pivot_check.proofs.Joined.{begins_below}
use Rattle.pivot_check.proofs.Taking.{begins_under}
use Rattle.pivot_check.specs.Parts.{remaining}

pub returns-clause-first : goal.returns-clause-first
returns-clause-first c = λ low.
    let x = c.args.first.now in
    let y = c.args.second.now in
    begins_below (remaining x) (drop (x.start + 1) x.written.items) (remaining y) (drop (y.start + 1) y.written.items) c.in-Some.x.now c.in-Some-first.y.now
    c.in-Some.ensures.some c.in-Some-first.ensures.some y.rising (grind arith)

pub returns-clause-second : goal.returns-clause-second
returns-clause-second c = λ high.
    let x = c.args.first.now in
    let y = c.args.second.now in
    begins_under (remaining y) (drop (y.start + 1) y.written.items) (remaining x) (drop (x.start + 1) x.written.items) c.in-Some-first.y.now c.in-Some.x.now
    c.in-Some-first.ensures.some c.in-Some.ensures.some x.rising (lt_of_not_le c.in-Some.x.now.key c.in-Some-first.y.now.key (grind arith))
