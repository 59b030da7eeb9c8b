use Rattle.last_readers.proofs.gathering.+steps_of.Given as goal
use Rattle.std.proofs.Common.{length}

abbrev pub decreases-steps_of : goal.decreases-steps_of
decreases-steps_of l = length l.marks.now
