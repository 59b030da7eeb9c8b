use Rattle.merging_runs.proofs.merges.open_last.Given as goal
use Rattle.std.proofs.Common.{◌≡◌, ◌≤◌, ◌-◌, false, drop, map, take}
use Rattle.std.specs.Vec.{vec_len}
use Rattle.merging_runs.specs.RunSizes.{become_one, has_alike, last_after}

abbrev pub invariant-loop-after : goal.invariant-loop-after
invariant-loop-after g l = record {
  runs : l.runs ≡ l.fn.runs;
  refused : l.refused ≡ l.fn.refused;
  some : 1 ≤ l.after;
  unlike : has_alike (become_one (g.R.Run.begin_numbers l.active) l.oldest)
      (last_after 0 (take (vec_len l.fn.runs - l.after) (map g.R.Run.sizes l.fn.runs.items)))
      (drop (vec_len l.fn.runs - l.after) (map g.R.Run.sizes l.fn.runs.items)) ≡ false;
}
