use Rattle.versions.proofs.several.Several.reclaim.Given as goal
use Rattle.std.proofs.Common.{◌≡◌, ◌≤◌, ◌++◌, length, take, drop}
use Rattle.std.specs.Vec.{vec_capacity}
use Rattle.versions.specs.Chains.{seen_by}

-- those before `kept` are kept, and from i on it stands to be seen which
abbrev pub invariant-loop-i : goal.invariant-loop-i
invariant-loop-i l = record {
  kept : take l.kept l.self-inside.older.items ++ seen_by l.begins l.last (drop l.i l.self-inside.older.items)
      ≡ seen_by l.begins l.last l.initial.self-inside.older.items;
  before : l.kept ≤ l.i;
  newest : l.self-inside.newest ≡ l.initial.self-inside.newest;
  capacity : vec_capacity l.self-inside.older ≡ vec_capacity l.initial.self-inside.older;
  long : length l.self-inside.older.items ≡ length l.initial.self-inside.older.items;
}
