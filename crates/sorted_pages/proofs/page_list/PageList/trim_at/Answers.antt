use Rattle.std.proofs.Common.{arith, subst, sym}
use Rattle.sorted_pages.proofs.Summaries.{have-page}
use Rattle.sorted_pages.specs.Summaries.{HoldsAmong}
use Rattle.sorted_pages.proofs.page_list.PageList.trim_at.Goals as goal

pub invariant_of-self : goal.invariant_of-self
invariant_of-self g c =
    let v = g.V.Versioned in
    let s = c.self.inside in
    let among = subst (HoldsAmong c.args.numbers.now) (sym c.self.view_is) c.requires.among in
    have-page v.hides v.shows v.last s.pages.items s.held s.last s.summaries.items c.self.invariant c.args.i c.index_mut.result.now c.trim_at.new.self
    c.index_mut.ensures.value (λ t late is. c.trim_at.ensures.summaries s.held t (λ n held lt. among n held (omega arith)) is)
