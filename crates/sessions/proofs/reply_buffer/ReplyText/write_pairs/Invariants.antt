use Rattle.sessions.proofs.reply_buffer.ReplyText.write_pairs.Given as goal
use Rattle.std.proofs.Common.{◌≡◌, ◌++◌, length, map}
use Rattle.model.specs.KeyBytes.{pair_bytes}
use Rattle.model.specs.Map.{IsInBounds}
use Rattle.resp.proofs.GivenPairs.{pairs_text}
use Rattle.snapshot.specs.RowPairs.{row_pairs}

abbrev pub invariant-loop-key : goal.invariant-loop-key
invariant-loop-key l = record {
  can : (goal.iterator-loop-key).can_next l.key-iterator;
  finite : (goal.iterator-loop-key).is_finite l.key-iterator;
  text : l.self ≡ pairs_text (length (row_pairs l.fn.rows)) l.yielded;
  given : map pair_bytes l.yielded ++ row_pairs l.key-iterator ≡ row_pairs l.fn.rows;
  left : IsInBounds (row_pairs l.key-iterator);
}
