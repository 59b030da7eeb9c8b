use Rattle.merging_runs.proofs.merges.move_runs.Given as goal
use Rattle.std.proofs.Common.{◌≡◌, ◌≤◌, ◌<◌, ◌-◌, drop, map}
use Rattle.std.specs.Prelude.{◌&&◌, nat_le}
use Rattle.std.specs.Vec.{vec_len}
use Rattle.merging_runs.proofs.MadeRuns.{AreEachFrom}
use Rattle.merging_runs.specs.KeptRuns.{StaySound}
use Rattle.merging_runs.specs.MadeRuns.{IsMovedOn}
use Rattle.merging_runs.specs.RunSizes.{AreMerged, left_above}

abbrev pub invariant-loop-after : goal.invariant-loop-after
invariant-loop-after g l = record {
  agree : g.R.Run.agree (λ b. nat_le l.oldest b && g.R.Run.asks l.active b) l.runs.items l.fn.runs.items;
  each : AreEachFrom (IsMovedOn (g.R.Run.makes l.active l.oldest) g.R.Run.sizes l.oldest) (vec_len l.fn.runs - l.after) l.fn.runs.items l.runs.items;
  len : vec_len l.runs ≡ vec_len l.fn.runs;
  most : l.rest ≤ l.most;
  merged : AreMerged g.R.Run.each l.oldest (l.most - l.rest) (map g.R.Run.sizes l.fn.runs.items) (map g.R.Run.sizes l.runs.items);
  ended : 0 < l.rest → left_above l.oldest (drop (vec_len l.fn.runs - l.after) (map g.R.Run.sizes l.runs.items)) ≡ 0;
  kept : StaySound (g.R.Run.holds l.active) g.R.Run.from g.R.Run.sizes l.fn.runs.items l.runs.items;
}
