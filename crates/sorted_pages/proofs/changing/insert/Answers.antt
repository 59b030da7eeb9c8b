use Rattle.sorted_pages.proofs.changing.insert.Goals as goal
use Rattle.std.proofs.Common.{◌<◌, subst, arith}
use Rattle.sorted_pages.proofs.Placings.{has_page, inserted, place_changed, place_is, place_within, room_of}
use Rattle.sorted_pages.proofs.Placings.{tight-set}
use Rattle.sorted_pages.specs.Changes.{InsertsEntry}
use Rattle.sorted_pages.specs.Pages.{Page}

pub insert-requires : goal.insert-requires
insert-requires g c =
    let ps = c.args.pages.now.pages in
    let i = c.args.at.page in
    let some = has_page ps c.args.key c.requires.room in
    let at = c.requires.point.page some in
    let here = place_is ps c.args.key i at in
    record {
      page = place_within ps c.args.key i at;
      gap = c.requires.point.gap some;
      room = λ p. subst (λ (q : Page g.row.V.Denot). 0 < q.1) (here p)
          (subst (λ n. 0 < n) (room_of ps c.args.key i at.page at (here at.page)) c.requires.room);
      fresh = c.requires.new.fresh;
      late = c.requires.new.late;
    }

pub returns : goal.returns
returns g c =
    let ps = c.args.pages.now.pages in
    let k = c.args.key in
    let i = c.args.at.page in
    let at = c.requires.point.page (has_page ps k c.requires.room) in
    let here = place_is ps k i at at.page in
    let new = c.insert.ensures.changed in
    let entry = place_changed (InsertsEntry k c.args.value) ps _ k i at new in
    let all = inserted ps k c.args.value i at.page new.page at here c.requires.order entry.entries (let r = entry.room in omega arith) in
    record {
      entries = rw new.is all.entries;
      place = rw new.is (record {
        order = all.order;
        rooms = all.rooms;
        others = all.others;
        together = all.together;
        tight = tight-set 0 ps i at.page new.page here (let r = entry.room in omega arith);
      });
      held = c.insert.ensures.held;
    }
