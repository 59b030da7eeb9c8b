use Rattle.sorted_pages.proofs.pages.SortedPages.get.Goals as goal
use Rattle.std.proofs.Common.{List, ap, sym, ◌∙◌}
use Rattle.std.specs.FinMap.Entries.{find}
use Rattle.model.specs.Map.{key_cmp}
use Rattle.sorted_pages.proofs.Placings.{page_sorted, find_at}
use Rattle.sorted_pages.specs.Pages.{Page, PagesValue, entries}

pub get-requires : goal.get-requires
get-requires g c =
    page_sorted c.as_slice-pages.result.now c.args.key.bytes.now c.place.result c.index-pages-place.result c.place.ensures c.index-pages-place.is
    (rw (← c.as_slice-pages.ensures) at c.self.invariant)

pub returns : goal.returns
returns g c =
    let same = c.as_slice-pages.ensures ∙ ap (λ (v : PagesValue g.row.V.Denot). v.pages) c.self.view_is in
    c.get.ensures
    ∙ sym (find_at c.as_slice-pages.result.now c.args.key.bytes.now c.place.result c.index-pages-place.result c.place.ensures c.index-pages-place.is)
    ∙ ap (λ (l : List (Page g.row.V.Denot)). find key_cmp c.args.key.bytes.now (entries l)) same
