use Rattle.commit_log.proofs.encode.payload_len.Given as goal
use Rattle.std.proofs.Common.{◌≡◌, ◌+◌, ◌*◌, ◌≤◌, take}
use Rattle.model.specs.Bounds.{value_max, entry_bound}
use Rattle.model.specs.Machine.{payload_size}

abbrev pub invariant-loop-write : goal.invariant-loop-write
invariant-loop-write l = record {
  len : l.len ≡ payload_size (take l.write-index l.writes);
  bound : l.len ≤ 4 + entry_bound value_max * l.write-index;
}
