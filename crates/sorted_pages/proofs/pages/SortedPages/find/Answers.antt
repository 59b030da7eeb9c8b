use Rattle.sorted_pages.proofs.pages.SortedPages.find.Goals as goal
use Rattle.std.proofs.Common.{ap, ◌∙◌}
use Rattle.sorted_pages.proofs.Placings.{find_at, page_at, page_sorted}
use Rattle.sorted_pages.specs.Pages.{PagesValue}

pub search-requires : goal.search-requires
search-requires g c =
    page_sorted c.as_slice-pages.result.now c.args.key.bytes.now c.place-page.result c.index-pages-page.result c.place-page.ensures c.index-pages-page.is
    (rw (← c.as_slice-pages.ensures) at c.self.invariant)

pub returns-in-Ok : goal.returns-in-Ok
returns-in-Ok g c =
    let ps = c.args.self.now.pages in
    let same = c.as_slice-pages.ensures ∙ ap (λ (v : PagesValue g.row.V.Denot). v.pages) c.self.view_is in
    let at = rw same at c.place-page.ensures in
    let is = rw same at c.index-pages-page.is in
    record {
      found = record {
        page = at;
        entry = λ p. rw (← page_at ps c.args.key.bytes.now c.place-page.result c.index-pages-page.result p at is) c.in-Ok.ensures.found;
      };
      absent = tt;
    }

pub returns-in-Err : goal.returns-in-Err
returns-in-Err g c =
    let ps = c.args.self.now.pages in
    let k = c.args.key.bytes.now in
    let i = c.place-page.result in
    let p = c.index-pages-page.result in
    let same = c.as_slice-pages.ensures ∙ ap (λ (v : PagesValue g.row.V.Denot). v.pages) c.self.view_is in
    let at = rw same at c.place-page.ensures in
    let is = rw same at c.index-pages-page.is in
    let gap = c.in-Err.ensures.absent in
    record {
      found = tt;
      absent = record {
        absent = find_at ps k i p at is ∙ gap.absent;
        page = λ _. at;
        gap = λ _ q. rw (← page_at ps k i p q at is) gap;
      };
    }
