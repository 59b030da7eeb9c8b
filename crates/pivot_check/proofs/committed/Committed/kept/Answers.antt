use Rattle.pivot_check.proofs.committed.Committed.kept.Goals as goal
use Rattle.std.proofs.Common.{◌≡◌, ◌+◌, Option, None, ℕ, rules, ap, sym, subst, ◌∙◌, arith}
use Rattle.merging_runs.proofs.NextNumbers.{count_next, count_same}
use Rattle.merging_runs.specs.Next.{IsNext}
use Rattle.pivot_check.specs.Kept.{CommittedValue, is_kept}

pub returns-then-next-self : goal.returns-then-next-self
returns-then-next-self c =
    let facts = c.args.self.now.facts in
    let last = ap (λ (v : CommittedValue). v.facts.last) c.self.view_is in
    let next = subst (λ (o : Option ℕ). IsNext (is_kept facts) c.kept.number o) c.in-Some.is c.next_kept.ensures in
    c.kept.invariant.counted
    ∙ sym (count_same (is_kept facts) c.kept.number facts.last c.kept.invariant.upto (λ k above upto. next.2 k above (omega
    (arith, upto, last, c.if-next-self.true))))

pub kept-preserved : goal.kept-preserved
kept-preserved c =
    let facts = c.args.self.now.facts in
    let last = ap (λ (v : CommittedValue). v.facts.last) c.self.view_is in
    let next = subst (λ (o : Option ℕ). IsNext (is_kept facts) c.kept.number o) c.in-Some.is c.next_kept.ensures in
    record {
      counted = ap (λ n. n + 1) c.kept.invariant.counted ∙ sym (count_next (is_kept facts) c.kept.number c.in-Some.next next.0 next.1 next.2);
      most = omega (arith, c.kept.invariant.most, next.0);
      upto = omega (arith, last, c.if-next-self.false);
    }

pub returns : goal.returns
returns c =
    let facts = c.args.self.now.facts in
    let none : c.next_kept.result ≡ None = search rules in
    let next = subst (λ (o : Option ℕ). IsNext (is_kept facts) c.kept.number o) none c.next_kept.ensures in
    c.kept.invariant.counted ∙ sym (count_same (is_kept facts) c.kept.number facts.last c.kept.invariant.upto (λ k above upto. next k above))
