use Rattle.commit_log.proofs.pairs.add_pairs.Given as goal
use Rattle.std.proofs.Common.{◌≡◌, ◌≤◌, ◌+◌, ◌++◌, take, drop, vec_len, vec_capacity}
use Rattle.std.specs.List.{flat_map}
use Rattle.model.specs.Machine.{payload_size}
use Rattle.commit_log.specs.Copying.{puts}
use Rattle.commit_log.specs.RecordFormat.{entry_bytes}

abbrev pub invariant-loop-i : goal.invariant-loop-i
invariant-loop-i l = record {
  items : l.body.items ≡ l.fn.body.items ++ flat_map entry_bytes (puts (take l.i l.fn.pairs));
  rest : l.pairs ≡ drop l.i l.fn.pairs;
  len : vec_len l.body + 4 ≡ vec_len l.fn.body + payload_size (puts (take l.i l.fn.pairs));
  capacity : vec_capacity l.fn.body ≤ vec_capacity l.body;
}
