use Rattle.std.proofs.Common.{◌≡◌, ◌∙◌, ◌++◌, ◌∷◌, [], ap, arith, sym}
use Rattle.sorted_pages.proofs.Summaries.{have-push}
use Rattle.sorted_pages.specs.Pages.{PagesValue}
use Rattle.sorted_pages.proofs.page_list.PageList.push.Goals as goal

pub invariant_of-self-2 : goal.invariant_of-self-2
invariant_of-self-2 g c =
    let v = g.V.Versioned in
    let s = c.self.inside in
    let top : c.args.self.now.last ≡ s.last = ap (λ (p : PagesValue g.row.V.Denot). p.last) (sym c.self.view_is) in
    rw (c.in_ok-push.ensures.items, c.push_reserved.ensures.items, c.in_ok-reserve.ensures.items)
    (have-push v.hides v.shows v.last s.pages.items s.held s.last s.summaries.items c.self.invariant c.args.number c.args.page
    c.of-summary.result (omega (arith, c.requires.late, top)) c.of-summary.ensures.summary c.of-summary.ensures.last)

pub returns-clause-pages : goal.returns-clause-pages
returns-clause-pages g c =
    c.in_ok-push.ensures.items ∙ ap (λ (p : PagesValue g.row.V.Denot). p.pages ++ c.args.page ∷ []) c.self.view_is
