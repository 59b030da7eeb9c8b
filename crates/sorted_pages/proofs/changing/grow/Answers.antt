use Rattle.sorted_pages.proofs.changing.grow.Goals as goal
use Rattle.std.proofs.Common.{◌+◌, ◌-◌, ◌≤◌, ap, subst, length, ◌∙◌}
use Rattle.std.proofs.lemmas.List.{length-set}
use Rattle.std.proofs.lemmas.Result.{on_ok_weaker}
use Rattle.sorted_pages.proofs.Placings.{count_grown, grown, place_changed, place_is, place_within, room_grown}
use Rattle.sorted_pages.proofs.Placings.{set_read}
use Rattle.sorted_pages.proofs.Placings.{tight-set}
use Rattle.sorted_pages.specs.Changes.{IsGrownFor}
use Rattle.sorted_pages.specs.Pages.{Page}
use Rattle.sorted_pages.specs.declared.page.TheConstants.{STEP}

pub reserve-requires : goal.reserve-requires
reserve-requires g c = record {
  page = place_within c.args.pages.now.pages c.args.key.bytes.now c.place-i.result (rw c.as_slice.ensures at c.place-i.ensures);
}

pub returns : goal.returns
returns g c =
    let ps = c.args.pages.now.pages in
    let k = c.args.key.bytes.now in
    let n = c.args.n in
    let i = c.place-i.result in
    let at = rw c.as_slice.ensures at c.place-i.ensures in
    let here = place_is ps k i at at.page in
    let new = c.reserve.ensures.changed in
    let p = new.page in
    let page = place_changed (IsGrownFor n) ps c.reserve.new.self.pages k i at new in
    let all = grown ps k i at.page p at here c.requires.order page.entries page.room in
    record {
      room = record {
        order = rw new.is all.order;
        roomier = rw new.is all.roomier;
        tight = rw new.is (tight-set (n + (STEP - 1)) ps i at.page p here page.tight);
        held = c.reserve.ensures.held;
      };
      made = on_ok_weaker c.reserve.result (λ made.
          let room = subst (λ (q : Page g.row.V.Denot). n ≤ q.1) (set_read ps k i p p at) (rw new.is at (made p)) in
          rw (new.is, room_grown ps k i at.page p at here page.entries) room) c.reserve.ensures.made;
      pages = ap length new.is ∙ length-set ps i p;
      count = rw new.is (count_grown ps k i at.page p at here page.entries);
    }
