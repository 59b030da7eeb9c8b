use Rattle.sorted_pages.proofs.placing.room.Goals as goal
use Rattle.std.proofs.Common.{sym, ◌∙◌}
use Rattle.sorted_pages.proofs.Placings.{room_of}

pub returns : goal.returns
returns g c =
    c.room.ensures ∙ sym (room_of c.args.pages.now c.args.key.bytes.now c.place.result c.index-pages-place.result c.place.ensures c.index-pages-place.is)
