use Rattle.std.proofs.Common.{◌∙◌, ◌≡◌, ◌<◌, Some, IfSome, Option, ℕ, sym, subst, arith}
use Rattle.std.specs.Prelude.{position, ◌==◌}
use Rattle.sorted_pages.proofs.Slots.{apart_with, bounded_with, free_with, with_found, with_none}
use Rattle.sorted_pages.specs.Held.{AreApart, AreBounded, AreFreeFrom}
use Rattle.sorted_pages.specs.declared.held.TheConstants.{FREE}
use Rattle.sorted_pages.proofs.held.Held.add.Goals as goal

pub returns-in-Some : goal.returns-in-Some
returns-in-Some c =
    let found : position (λ x. x == FREE) c.args.self.now ≡ Some c.in-Some.slot = sym c.slot_of.ensures.first ∙ c.in-Some.is in
    let is : c.self.inside.slots ≡ c.args.self.now = c.self.view_is in
    rw is (with_found c.args.number c.args.self.now c.in-Some.slot found)

pub invariant_of-self : goal.invariant_of-self
invariant_of-self c =
    let found : position (λ x. x == FREE) c.args.self.now ≡ Some c.in-Some.slot = sym c.slot_of.ensures.first ∙ c.in-Some.is in
    let is : c.self.inside.slots ≡ c.args.self.now = c.self.view_is in
    let apart : AreApart c.args.self.now = subst AreApart is c.self.invariant.0 in
    let bounded : AreBounded c.self.inside.bound c.args.self.now = subst (AreBounded _) is c.self.invariant.1 in
    let within : c.in-Some.slot < 64 = subst (λ (o : Option ℕ). IfSome o (λ k. k < 64)) c.in-Some.is c.slot_of.ensures.within in
    let old : AreFreeFrom c.self.inside.used c.args.self.now = subst (AreFreeFrom _) is c.self.invariant.2 in
    rw (is, with_found c.args.number c.args.self.now c.in-Some.slot found) (
      apart_with c.args.number c.args.self.now c.requires apart,
      bounded_with c.args.self.now c.args.number _ _ bounded (omega arith) (omega arith) (omega arith),
      free_with c.args.number c.args.self.now _ _ c.in-Some.slot found old (omega arith) (omega arith),
      omega arith,
      λ few. absurd (omega arith),
    )

pub returns-in_default : goal.returns-in_default
returns-in_default c = with_none c.args.number c.args.self.now (sym c.slot_of.ensures.first ∙ c.in_default.is)
