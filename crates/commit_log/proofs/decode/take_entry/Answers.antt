use Rattle.commit_log.proofs.decode.take_entry.Goals as goal
use Rattle.commit_log.proofs.Parsing.{no_value}

pub returns-in_default-2-clause-none : goal.returns-in_default-2-clause-none
returns-in_default-2-clause-none c =
    no_value c.args.format c.args.bytes.now c.in-Some.key.bytes.now c.in-Some.rest.now c.in-Some.ensures.some c.in-Some.key.sized
    (rw c.in_default-2.is at c.in_ok-value.ensures.none)
