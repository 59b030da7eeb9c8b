use Rattle.std.proofs.Common.{◌∙◌, ◌≡◌, ℕ, List, Some, get_or, arith, sym, subst}
use Rattle.std.proofs.lemmas.Bool.{and_left, eqb-true}
use Rattle.std.proofs.lemmas.Option.{slice_get-get_or}
use Rattle.std.specs.Prelude.{nat_lt, slice_get, ◌&&◌}
use Rattle.sorted_pages.proofs.Slots.{AreBitsTo, bits-left, bits-set, bits-used, free_above, free_later}
use Rattle.sorted_pages.specs.Held.{AreBits}
use Rattle.sorted_pages.specs.Summaries.{are_hidden}
use Rattle.sorted_pages.proofs.held.Held.bits_hiding.Goals.{then-is_hidden, else-is_hidden}
use Rattle.sorted_pages.proofs.held.Held.bits_hiding.Goals as goal

pub loop-slot-preserved : goal.loop-slot-preserved
loop-slot-preserved g c = elim c.if-is_hidden.branch [
  | then-is_hidden w ↦ subst (AreBitsTo _ _ _) (sym w.bits-is)
      (bits-set _ _ _ _ 0 c.loop-slot.invariant (omega arith) (omega arith) (sym c.is_hidden.ensures ∙ w.if-is_hidden.true))
  | else-is_hidden w ↦ subst (AreBitsTo _ _ _) (sym w.bits-is)
      (bits-left _ _ _ _ 0 c.loop-slot.invariant (omega arith) (sym c.is_hidden.ensures ∙ w.if-is_hidden.false))
]

pub returns : goal.returns
returns g c =
    let p = λ (n : ℕ). nat_lt n c.args.high && are_hidden (g.V.Versioned.hides n) c.args.entries.now in
    let free = free_later _ c.loop-slot.slot c.self.inside.slots c.self.invariant.2 (omega arith) in
    let none = and_left _ _ (free_above c.args.high (omega arith)) in
    subst (λ (ns : List ℕ). AreBits p ns c.loop-slot.bits) c.self.view_is
    (bits-used p c.self.inside.slots c.loop-slot.slot c.loop-slot.bits 0 c.loop-slot.invariant free none)

-- its bit is known to be right
pub is_hidden-requires : goal.is_hidden-requires
is_hidden-requires g c = λ known below.
    let number = get_or c.self.inside.slots c.loop-slot.slot 0 in
    let at = slice_get-get_or c.self.inside.slots c.loop-slot.slot 0 (omega arith) in
    let there = subst (λ (ns : List ℕ). slice_get ns c.loop-slot.slot ≡ Some number) c.self.view_is at in
    c.requires c.loop-slot.slot number there below (eqb-true _ _ (sym c.has_bit.ensures ∙ known))
