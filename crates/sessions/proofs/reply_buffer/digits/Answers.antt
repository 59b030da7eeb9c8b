use Rattle.sessions.proofs.reply_buffer.digits.Goals as goal
use Rattle.std.proofs.Common.{arith}
use Rattle.std.proofs.lemmas.Fmt.{length-decimal-le}

pub returns-in-0-to-9-clause-all : goal.returns-in-0-to-9-clause-all
returns-in-0-to-9-clause-all c = length-decimal-le 1 c.args.n (omega arith) (omega arith) (omega arith)

pub returns-in-10-to-99-clause-all : goal.returns-in-10-to-99-clause-all
returns-in-10-to-99-clause-all c = length-decimal-le 2 c.args.n (omega arith) (omega arith) (omega arith)

pub returns-in-100-to-999-clause-all : goal.returns-in-100-to-999-clause-all
returns-in-100-to-999-clause-all c = length-decimal-le 3 c.args.n (omega arith) (omega arith) (omega arith)

pub returns-in-1000-to-9999-clause-all : goal.returns-in-1000-to-9999-clause-all
returns-in-1000-to-9999-clause-all c = length-decimal-le 4 c.args.n (omega arith) (omega arith) (omega arith)

pub returns-in_default-clause-all : goal.returns-in_default-clause-all
returns-in_default-clause-all c = length-decimal-le 5 c.args.n (omega arith) (omega arith) (omega arith)
