use Rattle.commit_log.proofs.encode.add_writes.Given as goal
use Rattle.std.proofs.Common.{◌≡◌, ◌≤◌, ◌+◌, ◌++◌, take, vec_len, vec_capacity}
use Rattle.std.specs.List.{flat_map}
use Rattle.model.specs.Machine.{payload_size}
use Rattle.commit_log.specs.RecordFormat.{entry_bytes}

abbrev pub invariant-loop-write : goal.invariant-loop-write
invariant-loop-write l = record {
  items : l.body.items ≡ l.fn.body.items ++ flat_map entry_bytes (take l.write-index l.writes);
  len : vec_len l.body + 4 ≡ vec_len l.fn.body + payload_size (take l.write-index l.writes);
  capacity : vec_capacity l.fn.body ≤ vec_capacity l.body;
}
