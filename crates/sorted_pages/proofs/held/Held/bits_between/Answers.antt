use Rattle.std.proofs.Common.{◌∙◌, ℕ, List, arith, sym, subst}
use Rattle.std.proofs.lemmas.Bool.{and_right}
use Rattle.std.specs.Prelude.{nat_le, nat_lt, ◌&&◌}
use Rattle.sorted_pages.proofs.Slots.{AreBitsTo, bits-left, bits-set, bits-used, free_above, free_later, none_between}
use Rattle.sorted_pages.specs.Held.{AreBits}
use Rattle.sorted_pages.proofs.held.Held.bits_between.Goals.{then-is_between, else-is_between}
use Rattle.sorted_pages.proofs.held.Held.bits_between.Goals as goal

pub loop-slot-preserved : goal.loop-slot-preserved
loop-slot-preserved c = elim c.if-is_between.branch [
  | then-is_between w ↦ subst (AreBitsTo _ _ _) (sym w.bits-is)
      (bits-set _ _ _ _ 0 c.loop-slot.invariant (omega arith) (omega arith) (sym c.is_between.ensures ∙ w.if-is_between.true))
  | else-is_between w ↦ subst (AreBitsTo _ _ _) (sym w.bits-is)
      (bits-left _ _ _ _ 0 c.loop-slot.invariant (omega arith) (sym c.is_between.ensures ∙ w.if-is_between.false))
]

pub returns-clause-bits : goal.returns-clause-bits
returns-clause-bits c =
    let p = λ (n : ℕ). nat_le c.args.low n && nat_lt n c.args.high in
    let free = free_later _ c.loop-slot.slot c.self.inside.slots c.self.invariant.2 (omega arith) in
    let none = and_right _ _ (free_above c.args.high (omega arith)) in
    subst (λ (ns : List ℕ). AreBits p ns c.loop-slot.bits) c.self.view_is
    (bits-used p c.self.inside.slots c.loop-slot.slot c.loop-slot.bits 0 c.loop-slot.invariant free none)

pub returns-then-self-low-clause-bits : goal.returns-then-self-low-clause-bits
returns-then-self-low-clause-bits c =
    let p = λ (n : ℕ). nat_le c.args.low n && nat_lt n c.args.high in
    subst (λ (ns : List ℕ). AreBits p ns 0) c.self.view_is
    (none_between c.self.inside.bound c.args.low c.args.high c.self.inside.slots c.self.invariant.1 (omega arith) (omega arith))
