use Rattle.last_readers.proofs.runs.greatest_in.Given as goal
use Rattle.last_readers.proofs.RunLaws.{Decides}

abbrev pub invariant-loop-run : goal.invariant-loop-run
invariant-loop-run l = Decides l.begin l.runs l.key.bytes.now l.run-index l.greatest
