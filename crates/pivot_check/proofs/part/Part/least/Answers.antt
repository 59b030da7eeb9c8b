use Rattle.pivot_check.proofs.part.Part.least.Goals as goal
use Rattle.std.proofs.Common.{drop}
use Rattle.std.proofs.lemmas.Bool.{and_parts}
use Rattle.marks.specs.Lent.{lent_mark}
use Rattle.pivot_check.proofs.Passing.{passed_over, all_left}
use Rattle.pivot_check.specs.Postings.{asked_of}

pub returns-then-not-can_improve : goal.returns-then-not-can_improve
returns-then-not-can_improve c =
    passed_over c.args.found c.args.begin c.args.flagged (asked_of (lent_mark c.args.mark) c.args.begin c.args.flagged) (λ p e. (and_parts _ _ e).1)
    (drop c.args.self.now.start c.args.self.now.written.items)
    (all_left _ c.args.self.now.start c.args.self.now.written.items (c.can_improve.ensures c.if-not-can_improve.true))
