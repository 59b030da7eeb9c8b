use Rattle.merging_runs.proofs.next.next_in.Given as goal
use Rattle.std.proofs.Common.{Bool, ℕ}
use Rattle.merging_runs.proofs.NextNumbers.{with_first}
use Rattle.merging_runs.specs.Next.{IsNext}

-- what was found is the next of what was looked at
abbrev pub invariant-loop-run : goal.invariant-loop-run
invariant-loop-run g l = (p : ℕ → Bool) → IsNext p l.n l.fn.found → IsNext (with_first g.R.Run.has l.run-index l.runs p) l.n l.found
