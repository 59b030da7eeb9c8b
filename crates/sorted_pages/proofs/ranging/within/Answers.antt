use Rattle.sorted_pages.proofs.ranging.within.Goals as goal
use Rattle.std.proofs.Common.{◌+◌, ◌-◌, List, ◌∷◌, length, take, arith, ap, drop, refl, subst, ◌∙◌}
use Rattle.std.proofs.lemmas.List.{drop-drop, take_rest}
use Rattle.model.specs.KeyBytes.{end_bytes}
use Rattle.sorted_pages.proofs.Passed.{each-count, each-drop, knows-drop, others_seen, shown-from}
use Rattle.sorted_pages.proofs.Placings.{page_sorted, place_within}
use Rattle.sorted_pages.proofs.Tails.{after_place, range_from, from_place, tail_of}
use Rattle.sorted_pages.specs.Pages.{Page}
use Rattle.sorted_pages.specs.Ranges.{entries_from, shown, up_to}
use Rattle.sorted_pages.specs.Summaries.{AreSummaries}

pub split_place-requires : goal.split_place-requires
split_place-requires g c =
    page_sorted c.args.pages.now c.args.lo.bytes.now c.place-i.result c.index-pages-i.result c.place-i.ensures c.index-pages-i.is c.requires.order

-- each page has its summary
pub slice_bounds-result-count-2 : goal.slice_bounds-result-count-2
slice_bounds-result-count-2 g c =
    let v = g.V.Versioned in
    let count = each-count v.hides v.shows v.last c.requires.summaries.0 c.args.pages.now c.args.summaries.now c.requires.summaries.2 in
    let place = place_within c.args.pages.now c.args.lo.bytes.now c.place-i.result c.place-i.ensures in
    omega arith

pub slice_bounds-result-start-2 : goal.slice_bounds-result-start-2
slice_bounds-result-start-2 g c = slice_bounds-result-count-2 g c

pub returns-clause-entries : goal.returns-clause-entries
returns-clause-entries g c =
    let ps = c.args.pages.now in
    let ss = c.args.summaries.now in
    let i = c.place-i.result in
    let r = c.args.reader in
    let lo = c.args.lo.bytes.now in
    let hi = end_bytes c.args.hi in
    let v = g.V.Versioned in
    let hides = v.hides r.number in
    let page = c.index-pages-i.result in
    let from = c.split_place.result in
    let at = c.place-i.ensures in
    let here = from_place ps lo i page at c.index-pages-i.is in
    let held = c.requires.summaries.0 in
    let known = subst (λ (l : List (Page g.row.V.Denot)). AreSummaries v.hides v.shows v.last held l (drop 1 (drop i ss)))
    (after_place ps lo i page at c.index-pages-i.is)
    (rw (← drop-drop 1 i ss) at (each-drop v.hides v.shows v.last held (i + 1) ps ss c.requires.summaries.2)) in
    ap (λ (l : List (Page g.row.V.Denot)). up_to hi (shown hides (entries_from r from l (take (length ss - i) (drop i ss))))) (take_rest ps i ∙ here)
    ∙ ap (λ l. up_to hi (shown hides (entries_from r from (page ∷ at.after) l))) (take_rest ss i)
    ∙ ap (up_to hi) (shown-from v.hides v.shows v.last held r from page at.after (drop i ss) c.requires.summaries.1 known)
    ∙ range_from hides ps lo hi i page (drop from page.0) at.after at c.index-pages-i.is c.requires.order (tail_of page.0 lo from c.split_place.ensures) refl

pub returns-clause-ahead : goal.returns-clause-ahead
returns-clause-ahead g c = λ knows.
    let ps = c.args.pages.now in
    let ss = c.args.summaries.now in
    let i = c.place-i.result in
    let r = c.args.reader in
    let v = g.V.Versioned in
    let held = c.requires.summaries.0 in
    rw (take_rest ps i, take_rest ss i, drop-drop 1 i ps, drop-drop 1 i ss)
    (others_seen v.hides v.shows v.last held r (drop (i + 1) ps) (drop (i + 1) ss) c.requires.summaries.1 (knows-drop r (i + 1) ss knows)
    (each-drop v.hides v.shows v.last held (i + 1) ps ss c.requires.summaries.2))
