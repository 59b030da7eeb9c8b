use Rattle.pivot_check.proofs.written.covered.Goals as goal
use Rattle.std.proofs.Common.{true, ◌≡◌, ◌-◌, ◌+◌, ◌&&◌, ap, sym, subst, ◌∙◌, drop, take, arith}
use Rattle.std.proofs.lemmas.List.{take_rest}
use Rattle.model.specs.Map.{Bytes}
use Rattle.model.specs.PrivateCopy.{covers}
use Rattle.marks.specs.Lent.{lent_mark}
use Rattle.marks.specs.Marked.{start_of}
use Rattle.pivot_check.proofs.Walks.{rest_rises, rest_decides}
use Rattle.pivot_check.specs.Postings.{HaveKeysBelow, keys_rise, have_keys_from, least}

pub count_covered-requires-clause-rising : goal.count_covered-requires-clause-rising
count_covered-requires-clause-rising c =
    ap keys_rise (take_rest c.args.postings.now c.count_below-first.result) ∙ rest_rises c.args.postings.now c.count_below-first.result c.requires

pub count_covered-requires-clause-from : goal.count_covered-requires-clause-from
count_covered-requires-clause-from c =
    let ps = c.args.postings.now in
    let first = c.count_below-first.result in
    ap (have_keys_from (start_of (lent_mark c.args.mark))) (take_rest ps first)
    ∙ subst (λ (k : Bytes). have_keys_from k (drop first ps) ≡ true) c.start.ensures c.count_below-first.ensures.from

pub returns-clause-covered : goal.returns-clause-covered
returns-clause-covered c = λ t.
    let m = lent_mark c.args.mark in
    let first = c.count_below-first.result in
    let count = c.count_covered.result in
    let ps = c.args.postings.now in
    let below = subst (λ (k : Bytes). HaveKeysBelow k (take first ps)) c.start.ensures c.count_below-first.ensures.below in
    let there : count ≡ (first + count) - first = omega arith in
    rest_decides m t ps first below
    ∙ sym (ap (least (λ p. covers m p.key && t p)) (take_rest ps first))
    ∙ c.count_covered.ensures.covered t
    ∙ (λ i. least t (take (there i) (take_rest ps first i)))
