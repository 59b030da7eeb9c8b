use Rattle.versions.proofs.versions.Versions.make_room.Goals as goal
use Rattle.std.proofs.Common.{arith}
use Rattle.sorted_pages.specs.Pages.{entries}
use Rattle.versions.proofs.NothingLeft.{for-none}
use Rattle.versions.proofs.Listings.{listed-roomier}
use Rattle.versions.proofs.Stores.{kept-roomier}

pub invariant_of-self : goal.invariant_of-self
invariant_of-self c =
    let es = entries c.self.inside.chains.pages in
    let fs = entries c.make_room.new.chains.pages in
    let more = c.make_room.ensures.roomier in (
      kept-roomier es fs c.self.inside.last more.chains c.self.invariant.0,
      listed-roomier es fs c.self.inside.groups.items more.chains c.self.invariant.1,
      c.self.invariant.2,
      c.self.invariant.3,
      omega (arith, more.held.last, c.self.invariant.4),
      for-none _ _ c.clear.ensures,
    )
