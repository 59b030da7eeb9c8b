use Rattle.std.proofs.Common.{◌∙◌, ◌≡◌, ℕ, List, Some, None, arith, sym, subst}
use Rattle.std.proofs.lemmas.Bool.{ne_eqb}
use Rattle.std.specs.Prelude.{◌==◌, false, position}
use Rattle.sorted_pages.proofs.Slots.{found_used, free_next, none_above, none_used, without_place}
use Rattle.sorted_pages.specs.Held.{is_among}
use Rattle.sorted_pages.proofs.held.Held.slot_of.Goals as goal

pub returns-then-number-lt-FREE-clause-first : goal.returns-then-number-lt-FREE-clause-first
returns-then-number-lt-FREE-clause-first c =
    let above = none_above c.self.inside.bound c.args.number c.self.inside.slots c.self.invariant.1 (omega arith) (omega arith) in
    sym (without_place c.args.number c.args.self.now (subst (λ (ns : List ℕ). is_among ns c.args.number ≡ false) c.self.view_is above))

pub returns-in-Some-clause-first : goal.returns-in-Some-clause-first
returns-in-Some-clause-first c =
    let found = found_used c.args.number c.self.inside.slots c.self.inside.used c.in-Some.slot (sym c.place_of.ensures.first ∙ c.in-Some.is) in
    subst (λ (ns : List ℕ). Some c.in-Some.slot ≡ position (λ n. n == c.args.number) ns) c.self.view_is (sym found)

pub returns-in-None-clause-first : goal.returns-in-None-clause-first
returns-in-None-clause-first c =
    let next = free_next c.args.number c.self.inside.slots c.self.inside.used (omega arith) c.self.invariant.2 (omega arith)
    (sym c.place_of.ensures.first ∙ c.in-None.is) in
    subst (λ (ns : List ℕ). Some c.self.inside.used ≡ position (λ n. n == c.args.number) ns) c.self.view_is (sym next)

pub returns-in-None-2-2-clause-first : goal.returns-in-None-2-2-clause-first
returns-in-None-2-2-clause-first c =
    let other = ne_eqb c.args.number _ c.if-number-eq-FREE.false in
    let none = none_used c.args.number c.self.inside.slots c.self.inside.used c.self.invariant.2 other
    (sym c.place_of.ensures.first ∙ c.in-None.is) in
    subst (λ (ns : List ℕ). None ≡ position (λ n. n == c.args.number) ns) c.self.view_is (sym none)
