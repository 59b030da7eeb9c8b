use Rattle.sessions.proofs.reply_buffer.ReplyBuffer.write_brief.Goals as goal
use Rattle.std.proofs.Common.{arith}
use Rattle.model.specs.Operations.{response_of}
use Rattle.sessions.proofs.ReplyLengths.{brief_short}

pub invariant_of-self : goal.invariant_of-self
invariant_of-self c = (
  omega arith,
  (λ e. omega arith),
  brief_short c.write_brief.new.self (response_of c.args.reply.now) c.write_brief.result c.write_brief.ensures.written c.write_brief.ensures.short,
)
