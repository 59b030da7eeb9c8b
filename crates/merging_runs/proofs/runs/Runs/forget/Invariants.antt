use Rattle.merging_runs.proofs.runs.Runs.forget.Given as goal
use Rattle.std.proofs.Common.{◌≡◌}
use Rattle.std.specs.Prelude.{nat_le}
use Rattle.merging_runs.specs.Contents.{whole_upto}
use Rattle.merging_runs.specs.KeptRuns.{StaySound}
use Rattle.merging_runs.specs.RunSizes.{left_above}

abbrev pub invariant-old : goal.invariant-old
invariant-old g l = record {
  agree : g.R.Run.agree (nat_le l.oldest) l.self.runs l.fn.self.runs;
  left : left_above l.oldest l.self.sizes ≡ left_above l.oldest l.fn.self.sizes;
  refused : l.self.refused ≡ l.fn.self.refused;
  kept : (active : _) → StaySound (g.R.Run.holds active) g.R.Run.from g.R.Run.sizes l.fn.self.runs l.self.runs;
}

abbrev pub decreases-old : goal.decreases-old
decreases-old g l = whole_upto l.oldest l.self.contents
