use Rattle.std.proofs.Common.{◌∙◌, ◌≡◌, ℕ, List, sym, subst, ap, arith, cond, get_or, length, ◌+◌, ◌<◌, refl}
use Rattle.std.proofs.lemmas.Bool.{eq-eqb, ne_eqb}
use Rattle.std.specs.Prelude.{◌==◌, map}
use Rattle.sorted_pages.proofs.Slots.{apart_kept, bounded_kept, free_later, free_released, kept_of}
use Rattle.sorted_pages.proofs.Slots.{released-all, released-next, released-step}
use Rattle.sorted_pages.specs.Held.{AreApart, AreBounded}
use Rattle.sorted_pages.specs.declared.held.TheConstants.{FREE}
use Rattle.sorted_pages.proofs.held.Held.release_others.Goals.{then-number, else-number}
use Rattle.sorted_pages.proofs.held.Held.release_others.Goals as goal

pub loop-slot-init : goal.loop-slot-init
loop-slot-init c = record { is = refl; within = omega arith; free = λ i n le less at. absurd (omega arith) }

pub loop-slot-preserved : goal.loop-slot-preserved
loop-slot-preserved c =
    let ns = c.args.numbers.now in
    let old = c.self.inside.slots in
    let now = c.loop-slot.self-inside.slots in
    let k = c.loop-slot.slot in
    let v = c.kept-number.result in
    let within : k < length old = omega arith in
    let next : get_or now k 0 ≡ get_or old k 0 = ap (λ (l : List ℕ). get_or l k 0) c.loop-slot.invariant.is ∙ released-next ns old k within in
    let counted : c.if-number.used ≡ cond (v == FREE) c.loop-slot.used (k + 1) = elim c.if-number.branch [
      | then-number w ↦ w.used-is ∙ sym (ap (λ b. cond b c.loop-slot.used (k + 1)) (ne_eqb v FREE w.if-number.true))
      | else-number w ↦ w.used-is ∙ sym (ap (λ b. cond b c.loop-slot.used (k + 1)) (eq-eqb v FREE w.if-number.false))
    ] in
    released-step ns old now k c.loop-slot.used _ v c.loop-slot.invariant within (c.kept-number.ensures ∙ ap (kept_of ns) next) counted

pub invariant_of-self : goal.invariant_of-self
invariant_of-self c =
    let ns = c.args.numbers.now in
    let old = c.self.inside.slots in
    let now = c.loop-slot.self-inside.slots in
    let free = free_later _ c.loop-slot.slot old c.self.invariant.2 (omega arith) in
    let all = released-all ns old now c.loop-slot.slot c.loop-slot.used c.loop-slot.invariant free in (
      subst AreApart (sym all) (apart_kept ns old c.self.invariant.0),
      subst (AreBounded _) (sym all) (bounded_kept ns old _ (subst (AreBounded _) c.numbers.ensures c.bound_of-self-inside.ensures)),
      free_released ns old now c.loop-slot.slot c.loop-slot.used c.loop-slot.invariant free,
      (let small = c.loop-slot.invariant.within in omega arith),
      (λ few. absurd (omega arith)),
    )

pub returns-clause-kept : goal.returns-clause-kept
returns-clause-kept c =
    let ns = c.args.numbers.now in
    let old = c.self.inside.slots in
    let free = free_later _ c.loop-slot.slot old c.self.invariant.2 (omega arith) in
    released-all ns old c.loop-slot.self-inside.slots c.loop-slot.slot c.loop-slot.used c.loop-slot.invariant free
    ∙ ap (map (kept_of ns)) c.self.view_is

pub returns-clause-apart : goal.returns-clause-apart
returns-clause-apart c =
    let ns = c.args.numbers.now in
    let old = c.self.inside.slots in
    let free = free_later _ c.loop-slot.slot old c.self.invariant.2 (omega arith) in
    let all = released-all ns old c.loop-slot.self-inside.slots c.loop-slot.slot c.loop-slot.used c.loop-slot.invariant free in
    subst AreApart (sym all) (apart_kept ns old c.self.invariant.0)
