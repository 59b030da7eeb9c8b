use Rattle.sorted_pages.proofs.Summaries.{have-held}
use Rattle.sorted_pages.proofs.page_list.PageList.hold.Goals as goal

pub invariant_of-self : goal.invariant_of-self
invariant_of-self g c =
    let v = g.V.Versioned in
    let s = c.self.inside in
    have-held v.hides v.shows v.last s.pages.items s.held s.last s.summaries.items c.self.invariant c.hold.new.self c.hold.ensures.slots
