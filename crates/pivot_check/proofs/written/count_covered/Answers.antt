use Rattle.pivot_check.proofs.written.count_covered.Goals as goal
use Rattle.std.proofs.Common.{rules, of_calls, sym, ap, ◌∙◌}
use Rattle.std.proofs.lemmas.Fn.{always_returns_same}
use Rattle.model.specs.PrivateCopy.{covers}
use Rattle.marks.specs.Lent.{lent_mark}
use Rattle.pivot_check.proofs.Walks.{first_uncovered, parted_covered, covered_first}

pub returns-then-not-covers-clause-covered : goal.returns-then-not-covers-clause-covered
returns-then-not-covers-clause-covered c = λ t.
    let m = lent_mark c.args.mark in
    first_uncovered m t c.args.postings.now c.in-Some.posting.now c.in-Some.ensures.value c.requires.rising c.requires.from
    (sym (c.covers.ensures ∙ ap (covers m) c.key.ensures) ∙ c.if-not-covers.true)

pub returns-clause-covered : goal.returns-clause-covered
returns-clause-covered c = λ t.
    let m = lent_mark c.args.mark in
    covered_first m t c.args.postings.now c.partition_point.result
    (c.partition_point.ensures.partitioned (λ p. covers m p.key) (always_returns_same _ _ _ (λ a r f g. search (rules, of_calls)))
    (parted_covered m c.args.postings.now c.requires.rising c.requires.from))
