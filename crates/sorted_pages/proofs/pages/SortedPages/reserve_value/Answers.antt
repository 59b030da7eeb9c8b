use Rattle.sorted_pages.proofs.pages.SortedPages.reserve_value.Goals as goal
use Rattle.std.proofs.Common.{sym, subst}
use Rattle.std.proofs.lemmas.Result.{on_ok_weaker}
use Rattle.sorted_pages.proofs.OneValue.{has_room, order-changed, room_made, value_changed}
use Rattle.sorted_pages.proofs.Placings.{place_within, sorted_there}
use Rattle.sorted_pages.specs.Changes.{IsValuePlace}
use Rattle.sorted_pages.specs.Pages.{PagesValue}

pub reserve_value-requires : goal.reserve_value-requires
reserve_value-requires g c =
    let k = c.args.key.bytes.now in
    let i = c.args.at.page in
    let ps = c.self.inside.pages.pages in
    let at = subst (λ (v : PagesValue g.row.V.Denot). IsValuePlace v.pages k i c.args.at.entry) (sym c.self.view_is) c.requires in
    record { page = place_within ps k i at.page; sorted = sorted_there ps k i at.page c.self.invariant; entry = at.entry }

pub invariant_of-self : goal.invariant_of-self
invariant_of-self g c =
    let k = c.args.key.bytes.now in
    let i = c.args.at.page in
    let at = subst (λ (v : PagesValue g.row.V.Denot). IsValuePlace v.pages k i c.args.at.entry) (sym c.self.view_is) c.requires in
    order-changed g.V.Versioned.is_roomier c.self.inside.pages.pages c.reserve_value.new.self.pages k i at.page c.self.invariant c.reserve_value.ensures.changed

pub returns : goal.returns
returns g c =
    let k = c.args.key.bytes.now in
    let i = c.args.at.page in
    let v = g.V.Versioned in
    let ps = c.self.inside.pages.pages in
    let qs = c.reserve_value.new.self.pages in
    let at = subst (λ (v : PagesValue g.row.V.Denot). IsValuePlace v.pages k i c.args.at.entry) (sym c.self.view_is) c.requires in
    let new = c.reserve_value.ensures.changed in
    let all = value_changed v.is_roomier ps qs k i at.page c.self.invariant new in
    record {
      changed = rw c.self.view_is at all;
      made = on_ok_weaker c.reserve_value.result (λ made. room_made v.is_roomier ps qs k i at.page c.self.invariant new v.room (made new.page))
          c.reserve_value.ensures.made;
      known = λ some. c.reserve_value.ensures.known at.page.page (has_room v.room ps k i at.page at.page.page (rw c.self.view_is some));
      held = rw c.self.view_is at c.reserve_value.ensures.held;
    }
