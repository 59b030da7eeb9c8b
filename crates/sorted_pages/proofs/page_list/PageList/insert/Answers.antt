use Rattle.std.proofs.Common.{◌≡◌, ◌∙◌, ◌<◌, ap, arith, length, subst, sym}
use Rattle.std.proofs.lemmas.List.{get_or-set_same}
use Rattle.sorted_pages.proofs.Summaries.{have-raised}
use Rattle.sorted_pages.specs.Pages.{Page, PagesValue}
use Rattle.sorted_pages.specs.Summaries.{RaisesSummaries, is_any_shown}
use Rattle.sorted_pages.proofs.page_list.PageList.insert.Goals as goal

pub invariant_of-self : goal.invariant_of-self
invariant_of-self g c =
    let v = g.V.Versioned in
    let s = c.self.inside in
    let old = c.index_mut.result.now in
    let new = c.insert.new.self in
    let within : c.args.i < length s.pages.items = subst (λ (p : PagesValue g.row.V.Denot). c.args.i < length p.pages) (sym c.self.view_is) c.requires.page in
    let top : c.args.self.now.last ≡ s.last = ap (λ (p : PagesValue g.row.V.Denot). p.last) (sym c.self.view_is) in
    let read : c.index-2.result.now ≡ new = c.index-2.ensures ∙ get_or-set_same s.pages.items c.args.i new c.index-2.result.now within in
    have-raised v.hides v.shows v.last s.pages.items s.held s.last s.summaries.items c.self.invariant c.args.i c.last-number.result old new
    c.index.result.now c.raised.result within (omega (arith, c.requires.late, c.last-number.ensures.value, top)) c.index_mut.ensures.value c.index.ensures
    (subst (λ n. RaisesSummaries v.hides v.shows v.last n old.0 new.0) (sym c.last-number.ensures.value) c.insert.ensures.summaries)
    c.raised.ensures.last (c.raised.ensures.shows ∙ c.shows.ensures ∙ ap (λ (p : Page g.row.V.Denot). is_any_shown v.shows p.0) read)
    c.raised.ensures.hidden
