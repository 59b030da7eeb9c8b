use Rattle.sorted_pages.proofs.placing.place.Goals as goal
use Rattle.std.proofs.Common.{rules}
use Rattle.std.proofs.lemmas.Fn.{always_returns_same}
use Rattle.sorted_pages.proofs.Placings.{placed, parted}
use Rattle.sorted_pages.specs.Pages.{starts_by}

pub returns : goal.returns
returns g c =
    let k = c.args.key.bytes.now in
    let point = c.partition_point.ensures.partitioned (λ p. starts_by k p.0) (always_returns_same _ _ _ (λ a r f called. search rules))
    (parted k c.args.pages.now c.requires.order.sorted c.requires.order.filled) in
    placed k c.args.pages.now c.partition_point.result c.saturating_sub.result c.requires.order c.requires.some c.partition_point.ensures.bound
    c.saturating_sub.ensures point
