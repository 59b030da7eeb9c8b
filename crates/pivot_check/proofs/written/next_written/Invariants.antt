use Rattle.pivot_check.proofs.written.next_written.Given as goal
use Rattle.std.proofs.Common.{ℕ, Bool}
use Rattle.std.specs.Prelude.{◌==◌}
use Rattle.merging_runs.proofs.NextNumbers.{with_first}
use Rattle.merging_runs.specs.Next.{IsNext}
use Rattle.pivot_check.specs.Postings.{Posting}

-- what was found is the next of what was looked at
abbrev pub invariant-loop-posting : goal.invariant-loop-posting
invariant-loop-posting l = (p : ℕ → Bool) → IsNext p l.n l.fn.found
    → IsNext (with_first (λ (q : Posting) k. k == q.number) l.posting-index l.postings p) l.n l.found
