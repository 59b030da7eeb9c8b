use Rattle.merging_runs.proofs.runs.Runs.free_old.Given as goal
use Rattle.std.proofs.Common.{◌≡◌, ◌≤◌, ◌<◌, ◌+◌}
use Rattle.std.specs.Prelude.{nat_le}
use Rattle.merging_runs.specs.Contents.{partial_upto, whole_upto}
use Rattle.merging_runs.specs.KeptRuns.{StaySound}
use Rattle.merging_runs.specs.RunSizes.{left_above}

abbrev pub invariant-runs : goal.invariant-runs
invariant-runs g l = record {
  agree : g.R.Run.agree (nat_le l.oldest) l.self.runs l.fn.self.runs;
  whole : whole_upto l.oldest l.fn.self.contents + l.left ≡ whole_upto l.oldest l.self.contents + 1024;
  partial : partial_upto l.oldest l.self.contents.runs ≡ partial_upto l.oldest l.fn.self.contents.runs;
  credit : l.self.contents.credit ≡ l.fn.self.contents.credit;
  left : left_above l.oldest l.self.sizes ≡ left_above l.oldest l.fn.self.sizes;
  refused : l.self.refused ≡ l.fn.self.refused;
  kept : (active : _) → StaySound (g.R.Run.holds active) g.R.Run.from g.R.Run.sizes l.fn.self.runs l.self.runs;
  most : l.left ≤ 1024;
  ended : 0 < l.left → l.self.contents.taken ≡ 0;
}

abbrev pub decreases-runs : goal.decreases-runs
decreases-runs g l = l.left
