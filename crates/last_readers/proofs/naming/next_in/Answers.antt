use Rattle.last_readers.proofs.naming.next_in.Goals as goal
use Rattle.std.proofs.Common.{◌||◌, ◌∙◌}
use Rattle.std.specs.Prelude.{◌==◌}
use Rattle.merging_runs.proofs.NextNumbers.{either, next_same}

pub returns : goal.returns
returns c p is =
    let named = c.next_of-2.ensures _ (c.next_of.ensures p is) in
    next_same _ _ c.args.n c.next_of-2.result (λ k. either (p k) (k == c.at.result) (k == c.number_above.result)
    ∙ (λ i. p k || (k == c.at.ensures i || k == c.number_above.ensures i))) named
