use Rattle.pivot_check.proofs.bound.Bound.of.Goals as goal
use Rattle.std.proofs.Common.{arith, take, ap, ◌∙◌}
use Rattle.std.proofs.lemmas.Bool.Decides.{nat_tests}
use Rattle.std.proofs.lemmas.List.{take_all}
use Rattle.std.proofs.lemmas.List.Folds.{list_all_more}
use Rattle.std.specs.Prelude.{nat_le}
use Rattle.pivot_check.proofs.Passing.{more_from}
use Rattle.pivot_check.specs.Bounds.{is_from_bound}
use Rattle.pivot_check.specs.Postings.{Posting, postings_from}

pub loop-posting-preserved : goal.loop-posting-preserved
loop-posting-preserved c =
    let wider = more_from c.loop-posting.bound c.with-bound.result (take c.loop-posting.posting-index c.args.postings.now) c.with-bound.ensures.others
    c.loop-posting.invariant.bound in
    record {
      bound = grind (arith, list_all_more (is_from_bound c.with-bound.result) c.args.postings.now c.loop-posting.posting-index c.posting-item.result);
      from = λ n fits h.
          let more = list_all_more (λ (p : Posting). nat_le n p.number) c.args.postings.now c.loop-posting.posting-index c.posting-item.result in
          let before = c.loop-posting.invariant.from n fits in
          let least = c.with-bound.ensures.number in
          grind (arith, nat_tests, more, before, least);
    }

pub returns-clause-from : goal.returns-clause-from
returns-clause-from c = λ n fits h.
    c.loop-posting.invariant.from n fits (ap (postings_from n) (take_all c.loop-posting.posting-index c.args.postings.now (omega arith)) ∙ h)
