use Rattle.sorted_pages.proofs.pages.SortedPages.add.Goals as goal
use Rattle.std.proofs.Common.{sym, subst}
use Rattle.sorted_pages.proofs.OneValue.{has_room, order-changed, value_changed}
use Rattle.sorted_pages.proofs.Placings.{place_within, sorted_there}
use Rattle.sorted_pages.specs.Changes.{IsValuePlace}
use Rattle.sorted_pages.specs.Pages.{PagesValue}

pub add-requires : goal.add-requires
add-requires g c =
    let k = c.args.key.bytes.now in
    let i = c.args.at.page in
    let v = g.V.Versioned in
    let ps = c.self.inside.pages.pages in
    let at = subst (λ (v : PagesValue g.row.V.Denot). IsValuePlace v.pages k i c.args.at.entry) (sym c.self.view_is) c.requires.place in
    record {
      page = place_within ps k i at.page;
      sorted = sorted_there ps k i at.page c.self.invariant;
      entry = at.entry;
      room = λ p. has_room v.room ps k i at.page p (rw c.self.view_is c.requires.room);
      late = rw c.self.view_is c.requires.late;
    }

pub invariant_of-self : goal.invariant_of-self
invariant_of-self g c =
    let k = c.args.key.bytes.now in
    let i = c.args.at.page in
    let at = subst (λ (v : PagesValue g.row.V.Denot). IsValuePlace v.pages k i c.args.at.entry) (sym c.self.view_is) c.requires.place in
    order-changed (g.V.Versioned.adds c.args.version) c.self.inside.pages.pages c.add.new.self.pages k i at.page c.self.invariant c.add.ensures.changed

pub returns : goal.returns
returns g c =
    let k = c.args.key.bytes.now in
    let i = c.args.at.page in
    let at = subst (λ (v : PagesValue g.row.V.Denot). IsValuePlace v.pages k i c.args.at.entry) (sym c.self.view_is) c.requires.place in
    let new = c.add.ensures.changed in
    record {
      changed = rw c.self.view_is at
          (value_changed (g.V.Versioned.adds c.args.version) c.self.inside.pages.pages c.add.new.self.pages k i at.page c.self.invariant new);
      held = rw c.self.view_is at c.add.ensures.held;
    }
