use Rattle.sessions.proofs.reply_buffer.ReplyBuffer.write_pairs.Goals as goal
use Rattle.std.proofs.Common.{arith}
use Rattle.model.specs.Bounds.{range_reply_max}
use Rattle.model.specs.Operations.{Pairs}
use Rattle.model.specs.ReplyText.{reply_text}
use Rattle.snapshot.specs.RowPairs.{row_pairs}
use Rattle.sessions.proofs.ReplyLengths.{written_short, pairs_short}

pub invariant_of-self : goal.invariant_of-self
invariant_of-self c = (
  omega arith,
  (λ e. omega arith),
  written_short c.write_pairs.new.self (reply_text (Pairs (row_pairs c.args.rows))) range_reply_max c.write_pairs.result
      c.write_pairs.ensures.ok c.write_pairs.ensures.err (pairs_short (row_pairs c.args.rows) c.requires.in_bounds c.requires.few),
)
