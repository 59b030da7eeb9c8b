use Rattle.pivot_check.proofs.committed.Committed.verdict.Goals as goal
use Rattle.std.proofs.Common.{ap, ◌∙◌}
use Rattle.std.specs.List.{position}
use Rattle.pivot_check.proofs.Judging.{clears, says_overwritten, says_found}
use Rattle.pivot_check.specs.Index.{is_written_since}
use Rattle.pivot_check.specs.Inside.{postings_in}
use Rattle.pivot_check.specs.Kept.{CommittedValue, IsInReach}
use Rattle.pivot_check.specs.StandsFor.{IsVerdict}

pub returns-in-Some-clause-verdict : goal.returns-in-Some-clause-verdict
returns-in-Some-clause-verdict c = λ reach h s r own.
    let postings = ap postings_in c.as_slice.ensures.runs ∙ ap (λ (v : CommittedValue). v.facts.postings) c.self.view_is in
    says_overwritten c.args.self.now.facts h s c.args.transaction.now reach r own c.in-Some.i
    (c.in-Some.ensures ∙ (λ i. position (λ w. is_written_since (postings i) (c.begin.ensures i) w.0) (c.entries.ensures.writes i)))

says : (c : goal.After-answer) → IsInReach c.args.self.now.facts c.args.transaction.now → IsVerdict c.args.self.now.facts c.args.transaction.now c.answer.result
says c = λ reach h s r own.
    let postings = ap postings_in c.as_slice.ensures.runs ∙ ap (λ (v : CommittedValue). v.facts.postings) c.self.view_is in
    says_found c.args.self.now.facts h s c.args.transaction.now reach r own
    (c.in-None.ensures ∙ (λ i. position (λ w. is_written_since (postings i) (c.begin.ensures i) w.0) (c.entries.ensures.writes i))) _ c.answer.ensures

pub returns-in-None-clause-verdict : goal.returns-in-None-clause-verdict
returns-in-None-clause-verdict c = says c

pub returns-in-None-clause-cleared : goal.returns-in-None-clause-cleared
returns-in-None-clause-cleared c = clears c.args.self.now.facts c.args.transaction.now c.answer.result (says c) c.answer.ensures
