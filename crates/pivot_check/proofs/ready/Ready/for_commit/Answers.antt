use Rattle.pivot_check.proofs.ready.Ready.for_commit.Goals as goal
use Rattle.std.proofs.Common.{ap, ◌∙◌}
use Rattle.pivot_check.proofs.ShortRuns.{keys_strict}
use Rattle.pivot_check.specs.Kept.{keys_of}
use Rattle.pivot_check.specs.Postings.{rise_strictly}

pub invariant_of-result-clause-once : goal.invariant_of-result-clause-once
invariant_of-result-clause-once c =
    ap rise_strictly (c.in_ok-keys.ensures ∙ ap keys_of c.entries.ensures.writes) ∙ keys_strict c.args.transaction.now.writes c.entries.ensures.entries.sorted
