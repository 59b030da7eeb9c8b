use Rattle.sorted_pages.proofs.trimming.trim_at.Goals as goal
use Rattle.std.proofs.Common.{List, sym, ap, ◌∙◌}
use Rattle.std.specs.FinMap.Entries.{find}
use Rattle.std.specs.Prelude.{option_map}
use Rattle.model.specs.Map.{key_cmp}
use Rattle.sorted_pages.proofs.Placings.{find_at, place_changed, place_is, place_within, set_read, sorted_there}
use Rattle.sorted_pages.proofs.Values.{trimmed, find-changed}
use Rattle.sorted_pages.specs.Changes.{AppliesAt}
use Rattle.sorted_pages.specs.Pages.{Page, entries}
use Rattle.sorted_pages.specs.Trims.{passes}

pub trim_at-requires : goal.trim_at-requires
trim_at-requires g c =
    let ps = c.args.pages.now.pages in
    let k = c.args.key.bytes.now in
    let i = c.place-i.result in
    let at = rw c.as_slice-2.ensures at c.place-i.ensures in
    record { page = place_within ps k i at; sorted = sorted_there ps k i at c.requires.order; among = c.requires.among }

pub returns : goal.returns
returns g c =
    let ps = c.args.pages.now.pages in
    let i = c.place-i.result in
    let k = c.args.key.bytes.now in
    let f = g.V.Versioned.trimmed c.args.numbers.now in
    let has = g.V.Versioned.has c.args.number in
    let at = rw c.as_slice-2.ensures at c.place-i.ensures in
    let here = place_is ps k i at at.page in
    let new = c.trim_at.ensures.changed in
    let page = place_changed (AppliesAt f k) ps c.trim_at.new.self.pages k i at new in
    let all = trimmed f ps k i at.page new.page at here c.requires.order page.entries page.room in
    record {
      order = rw new.is all.order;
      entries = rw new.is all.entries;
      -- both are f of the key's value before
      left = rw (new.is, set_read ps k i new.page new.page at) at (c.trim_at.ensures.left new.page)
          ∙ ap (passes has) (ap (find key_cmp k) page.entries ∙ find-changed f k at.page.0 ∙ ap (option_map f) (sym (find_at ps k i at.page at here))
          ∙ sym (ap (λ (l : List (Page g.row.V.Denot)). find key_cmp k (entries l)) new.is ∙ ap (find key_cmp k) all.entries ∙ find-changed f k (entries ps)));
      held = c.trim_at.ensures.held;
    }
