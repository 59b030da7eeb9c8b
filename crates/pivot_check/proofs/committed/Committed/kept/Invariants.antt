use Rattle.pivot_check.proofs.committed.Committed.kept.Given as goal
use Rattle.std.proofs.Common.{◌≡◌, ◌≤◌, ◌-◌}
use Rattle.merging_runs.specs.Next.{count_upto}
use Rattle.pivot_check.specs.Kept.{is_kept}

abbrev pub invariant-kept : goal.invariant-kept
invariant-kept l = record {
  counted : l.count ≡ count_upto (is_kept l.self.facts) l.number;
  most : l.count ≤ l.number;
  upto : l.number ≤ l.self.facts.last;
}

abbrev pub decreases-kept : goal.decreases-kept
decreases-kept l = l.self.facts.last - l.number
