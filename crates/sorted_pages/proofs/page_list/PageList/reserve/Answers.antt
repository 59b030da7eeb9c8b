use Rattle.std.proofs.Common.{sym, subst}
use Rattle.sorted_pages.proofs.Summaries.{have-page}
use Rattle.sorted_pages.specs.Summaries.{IsSummary}
use Rattle.sorted_pages.proofs.page_list.PageList.reserve.Goals as goal

pub invariant_of-self : goal.invariant_of-self
invariant_of-self g c =
    let v = g.V.Versioned in
    let s = c.self.inside in
    have-page v.hides v.shows v.last s.pages.items s.held s.last s.summaries.items c.self.invariant c.args.i c.index_mut.result.now c.reserve.new.self
    c.index_mut.ensures.value (λ t late is. subst (λ es. IsSummary v.hides v.shows v.last s.held es t) (sym c.reserve.ensures.entries) is)
