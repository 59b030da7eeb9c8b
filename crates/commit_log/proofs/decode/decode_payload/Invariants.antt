use Rattle.commit_log.proofs.decode.decode_payload.Given as goal
use Rattle.std.proofs.Common.{◌≡◌, ◌++◌, All, length}
use Rattle.std.specs.List.{flat_map}
use Rattle.byteorder.specs.Endian.{big_bytes}
use Rattle.commit_log.specs.RecordFormat.{FitsFormat, IsRising, entry_bytes}

abbrev pub invariant-loop-i : goal.invariant-loop-i
invariant-loop-i l = record {
  read : l.bytes ≡ big_bytes 4 l.count ++ (flat_map entry_bytes l.writes.items ++ l.rest);
  number : length l.writes.items ≡ l.i;
  limits : All (FitsFormat l.format) l.writes.items;
  rising : IsRising l.writes.items;
}
