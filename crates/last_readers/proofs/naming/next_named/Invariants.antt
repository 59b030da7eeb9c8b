use Rattle.last_readers.proofs.naming.next_named.Given as goal
use Rattle.std.proofs.Common.{ℕ, Bool}
use Rattle.merging_runs.proofs.NextNumbers.{with_first}
use Rattle.merging_runs.specs.Next.{IsNext}
use Rattle.last_readers.specs.Steps.{names}

-- what was found is the next of what was looked at
abbrev pub invariant-loop-i : goal.invariant-loop-i
invariant-loop-i l = (p : ℕ → Bool) → IsNext p l.n l.fn.found → IsNext (with_first names l.i l.steps.items p) l.n l.found
