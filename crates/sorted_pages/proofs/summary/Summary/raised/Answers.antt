use Rattle.std.proofs.Common.{◌∙◌, Bool, cond, ap, sym}
use Rattle.std.specs.Int.{bit_at}
use Rattle.std.specs.Prelude.{nat_le, not}
use Rattle.sorted_pages.proofs.Slots.{clear-between, set-between}
use Rattle.sorted_pages.specs.Held.{bit_of}
use Rattle.sorted_pages.proofs.summary.Summary.raised.Goals as goal

pub returns-then-self-clause-hidden : goal.returns-then-self-clause-hidden
returns-then-self-clause-hidden c i n at lt =
    clear-between c.args.held.now c.args.self.last c.args.number c.args.self.hidden c.bits_between-newest.result
    c.bits_between-newest.ensures.bits c.bits_between-newest.type_inv c.bits_between-newest.ensures.places i n at lt
    ∙ sym (ap (λ (b : Bool). cond (nat_le c.args.self.last n) (bit_of (not b)) (bit_at c.args.self.hidden i)) c.if-self.true)

pub returns-else-self-clause-hidden : goal.returns-else-self-clause-hidden
returns-else-self-clause-hidden c i n at lt =
    set-between c.args.held.now c.args.self.last c.args.number c.args.self.hidden c.bits_between-newest.result
    c.bits_between-newest.ensures.bits i n at lt
    ∙ sym (ap (λ (b : Bool). cond (nat_le c.args.self.last n) (bit_of (not b)) (bit_at c.args.self.hidden i)) c.if-self.false)
