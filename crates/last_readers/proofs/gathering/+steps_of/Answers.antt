use Rattle.last_readers.proofs.gathering.+steps_of.Goals as goal
use Rattle.std.proofs.Common.{length, ◌/◌, ◌∙◌}
use Rattle.last_readers.proofs.MarkSteps.{both_covered}
use Rattle.last_readers.specs.Merging.{later}

pub returns-clause-covers : goal.returns-clause-covers
returns-clause-covers t c = λ k.
    let first = c.in_ok-first.ensures.covers k in
    let second = c.in_ok-second.ensures.covers k in
    c.merge.ensures.later k ∙ (λ i. later 0 (first i) (second i)) ∙ both_covered c.args.marks.now (length c.args.marks.now / 2) k
