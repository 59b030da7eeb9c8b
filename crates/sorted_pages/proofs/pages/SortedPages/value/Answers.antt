use Rattle.sorted_pages.proofs.pages.SortedPages.value.Goals as goal
use Rattle.std.proofs.Common.{◌≡◌, List, ap, get_or, subst, sym, ◌∙◌}
use Rattle.model.specs.Entries.{IsAt}
use Rattle.sorted_pages.proofs.Placings.{find_at, page_sorted, place_within}
use Rattle.sorted_pages.specs.Pages.{IsInOrder, Page, PagesValue}

pub bounds-as_slice-at : goal.bounds-as_slice-at
bounds-as_slice-at g c =
    let same = c.as_slice.ensures ∙ ap (λ (v : PagesValue g.row.V.Denot). v.pages) c.self.view_is in
    rw same (place_within c.args.self.now.pages c.args.key.bytes.now c.args.at.page c.requires.page)

pub value-requires : goal.value-requires
value-requires g c =
    let ps = c.args.self.now.pages in
    let i = c.args.at.page in
    let p = c.index-as_slice-at.result in
    let seen = ap (λ (v : PagesValue g.row.V.Denot). v.pages) c.self.view_is in
    let is : p ≡ get_or ps i p = rw (c.as_slice.ensures ∙ seen) at c.index-as_slice-at.is in
    record {
      sorted = page_sorted ps c.args.key.bytes.now i p c.requires.page is (subst (λ (l : List (Page g.row.V.Denot)). IsInOrder l) seen c.self.invariant);
      place = subst (λ (q : Page g.row.V.Denot). IsAt q.0 c.args.key.bytes.now c.args.at.entry) (sym is) (c.requires.entry p);
    }

pub returns : goal.returns
returns g c =
    let same = c.as_slice.ensures ∙ ap (λ (v : PagesValue g.row.V.Denot). v.pages) c.self.view_is in
    find_at c.args.self.now.pages c.args.key.bytes.now c.args.at.page c.index-as_slice-at.result c.requires.page (rw same at c.index-as_slice-at.is)
    ∙ c.value.ensures
