use Rattle.std.proofs.Common.{◌∙◌, ◌<◌, inr, sym, subst, IfSome, ℕ, Option}
use Rattle.std.proofs.lemmas.Bool.{both_ways}
use Rattle.std.proofs.lemmas.Nat.{one_shl}
use Rattle.sorted_pages.proofs.Slots.{found_place, no_place}
use Rattle.sorted_pages.proofs.held.Held.reader.Goals as goal

pub returns-in-Some-clause-slot : goal.returns-in-Some-clause-slot
returns-in-Some-clause-slot c =
    let within : c.in-Some.slot < 64 = subst (λ (o : Option ℕ). IfSome o (λ k. k < 64)) c.in-Some.is c.slot_of.ensures.within in
    let at = found_place c.args.number c.args.self.now c.in-Some.slot (sym c.slot_of.ensures.first ∙ c.in-Some.is) in
    inr (c.in-Some.slot, at, one_shl c.in-Some.slot 64 within)

pub returns-in-None-clause-known : goal.returns-in-None-clause-known
returns-in-None-clause-known c known =
    absurd (both_ways _ (no_place c.args.number c.args.self.now (sym c.slot_of.ensures.first ∙ c.in-None.is)) known)
