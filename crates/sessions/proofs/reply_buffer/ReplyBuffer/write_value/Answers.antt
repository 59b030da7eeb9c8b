use Rattle.sessions.proofs.reply_buffer.ReplyBuffer.write_value.Goals as goal
use Rattle.std.proofs.Common.{arith, option_copied}
use Rattle.model.specs.Bounds.{range_reply_max}
use Rattle.model.specs.Operations.{Value}
use Rattle.model.specs.ReplyText.{reply_text}
use Rattle.sessions.proofs.ReplyLengths.{written_short, value_short}

pub invariant_of-self : goal.invariant_of-self
invariant_of-self c = (
  omega arith,
  (λ e. omega arith),
  written_short c.write_value.new.self (reply_text (Value (option_copied c.args.value))) range_reply_max c.write_value.result
      c.write_value.ensures.ok c.write_value.ensures.err (value_short c.args.value c.requires),
)
