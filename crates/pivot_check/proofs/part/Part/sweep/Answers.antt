use Rattle.pivot_check.proofs.part.Part.sweep.Goals as goal
use Rattle.std.proofs.Common.{◌≡◌, length, take, drop, ap, sym, ◌∙◌, arith, rules}
use Rattle.std.proofs.lemmas.Fn.{filter_same}
use Rattle.std.specs.Prelude.{min, ◌/◌, count_by, nat_lt}
use Rattle.pivot_check.proofs.Sweeps.{bound_later, later_from, later_within, rises_later}
use Rattle.pivot_check.specs.Bounds.{are_from_bound}
use Rattle.pivot_check.specs.Postings.{keys_rise, Posting, later_than}
use Rattle.pivot_check.specs.declared.bound.Bound.{Bound}

pub invariant_of-self : goal.invariant_of-self
invariant_of-self c =
    let part = c.args.self.now in
    let o = c.args.oldest in
    let ps = part.written.items in
    let n = c.count_later-start.result in
    let counted : n ≡ count_by (λ (p : Posting). nat_lt o p.number) (take part.start ps) =
    c.count_later-start.ensures ∙ (λ i. count_by (λ (p : Posting). nat_lt o p.number) (take part.start (c.deref.ensures.value i))) in
    let kept : c.retain.new.self.items ≡ later_than o ps = filter_same _ _ _ (λ x b f' k. search rules) _ _ c.retain.ensures.filtered in
    record {
      within = omega (arith, later_within o part.start n ps counted, ap length kept);
      rising = ap (λ l. keys_rise (drop n l)) kept ∙ ap keys_rise (later_from o part.start n ps counted) ∙ rises_later o (drop part.start ps) part.rising;
      bounded = ap (are_from_bound c.above-self.result) kept ∙ bound_later o part.bound c.above-self.result ps c.above-self.ensures.postings part.bounded;
      blocks = λ i b lt. absurd (omega (arith, ap length c.clear.ensures.items));
      whole = omega (arith, ap length c.clear.ensures.items);
    }

pub returns-clause-written : goal.returns-clause-written
returns-clause-written c =
    ap (λ w. w.items) c.add_bounds.ensures.written ∙ filter_same _ _ _ (λ x b f' k. search rules) _ _ c.retain.ensures.filtered

pub returns-clause-left : goal.returns-clause-left
returns-clause-left c =
    let part = c.args.self.now in
    let o = c.args.oldest in
    let ps = part.written.items in
    let n = c.count_later-start.result in
    let counted : n ≡ count_by (λ (p : Posting). nat_lt o p.number) (take part.start ps) =
    c.count_later-start.ensures ∙ (λ i. count_by (λ (p : Posting). nat_lt o p.number) (take part.start (c.deref.ensures.value i))) in
    let kept : c.retain.new.self.items ≡ later_than o ps = filter_same _ _ _ (λ x b f' k. search rules) _ _ c.retain.ensures.filtered in
    (λ i. drop (c.add_bounds.ensures.start i) (c.add_bounds.ensures.written i).items) ∙ ap (drop n) kept ∙ later_from o part.start n ps counted

pub returns-clause-number : goal.returns-clause-number
returns-clause-number c = omega (arith, ap (λ (b : Bound). b.number) c.add_bounds.ensures.bound, c.above-self.ensures.number)

pub returns-clause-bounds : goal.returns-clause-bounds
returns-clause-bounds c = c.add_bounds.ensures.bounds ∙ (λ i. min (length (sym c.add_bounds.ensures.written i).items / 64) (c.clear.ensures.capacity i))
