use Rattle.sorted_pages.proofs.ranging.up_to.Goals as goal
use Rattle.std.proofs.Common.{◌+◌}
use Rattle.sorted_pages.proofs.Ends.{ends_as, order_to}
use Rattle.sorted_pages.proofs.Passed.{each-take}
use Rattle.sorted_pages.proofs.Placings.{page_sorted}

pub first_from-requires : goal.first_from-requires
first_from-requires g c =
    page_sorted c.args.pages.now c.args.hi.bytes.now c.place-i.result c.index-pages-i.result c.place-i.ensures c.index-pages-i.is c.requires

pub returns : goal.returns
returns g c =
    let ps = c.args.pages.now in
    let v = g.V.Versioned in
    record {
      order = order_to ps (c.place-i.result + 1) c.requires;
      summaries = λ held ss known. each-take v.hides v.shows v.last held (c.place-i.result + 1) ps ss known;
      same = ends_as ps c.args.hi.bytes.now c.place-i.result c.index-pages-i.result _ c.place-i.ensures c.index-pages-i.is c.requires c.first_from.ensures;
    }
