use Rattle.std.proofs.Common.{◌∙◌, inl, inr, refl, sym, arith}
use Rattle.sorted_pages.proofs.Slots.{no_place, placed_among}
use Rattle.sorted_pages.proofs.held.Held.add_late.Goals as goal

pub add-requires : goal.add-requires
add-requires c = no_place c.args.number c.args.self.now (sym c.slot_of.ensures.first ∙ c.in-None.is)

pub returns-in-Some : goal.returns-in-Some
returns-in-Some c = inr (inr (placed_among c.args.number c.args.self.now c.in-Some.field-0 (sym c.slot_of.ensures.first ∙ c.in-Some.is)), refl)

pub returns-in-None : goal.returns-in-None
returns-in-None c =
    inl (omega arith, no_place c.args.number c.args.self.now (sym c.slot_of.ensures.first ∙ c.in-None.is), c.add.ensures)
