use Rattle.sorted_pages.proofs.Summaries.{have-page}
use Rattle.sorted_pages.proofs.page_list.PageList.reserve_value.Goals as goal

pub invariant_of-self : goal.invariant_of-self
invariant_of-self g c =
    let v = g.V.Versioned in
    let s = c.self.inside in
    have-page v.hides v.shows v.last s.pages.items s.held s.last s.summaries.items c.self.invariant c.args.i c.index_mut.result.now c.reserve_value.new.self
    c.index_mut.ensures.value (λ t late is. c.reserve_value.ensures.summaries s.held t is)
