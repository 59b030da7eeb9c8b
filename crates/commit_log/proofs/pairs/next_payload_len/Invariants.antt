use Rattle.commit_log.proofs.pairs.next_payload_len.Given as goal
use Rattle.std.proofs.Common.{◌≡◌, ◌≤◌, ◌+◌, ◌*◌, take, drop}
use Rattle.model.specs.Bounds.{value_max, entry_bound}
use Rattle.model.specs.Machine.{payload_size}
use Rattle.commit_log.specs.Copying.{puts}

abbrev pub invariant-loop-i : goal.invariant-loop-i
invariant-loop-i l = record {
  len : l.len ≡ payload_size (puts (take l.i l.fn.pairs));
  rest : l.pairs ≡ drop l.i l.fn.pairs;
  bound : l.len ≤ 4 + entry_bound value_max * l.i;
}
