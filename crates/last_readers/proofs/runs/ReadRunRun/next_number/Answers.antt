use Rattle.last_readers.proofs.runs.ReadRunRun.next_number.Goals as goal
use Rattle.std.proofs.Common.{ℕ, List}
use Rattle.std.specs.List.{list_any}
use Rattle.merging_runs.proofs.NextNumbers.{either_of_four, next_same}
use Rattle.last_readers.specs.Steps.{StepValue, names}

pub returns : goal.returns
returns c p is =
    let run = c.args.self.now in
    let any = λ (ss : List StepValue) (k : ℕ). list_any (λ s. names s k) ss in
    next_same _ _ c.args.n c.next_named.result (λ k. either_of_four (p k) (any run.first.items k) (any run.second.items k) (any run.made.items k))
    (c.next_named.ensures _ (c.next_named-in_second.ensures _ (c.next_named-in_first.ensures p is)))
