use Rattle.commands.proofs.streams.keep_standard.Given as goal
use Rattle.commands.specs.Openings.{KeepsSoFar}

abbrev pub invariant-loop-turn : goal.invariant-loop-turn
invariant-loop-turn g l = KeepsSoFar g.O.Opener.opens g.O.File.AsRawFd.raw_fd l.initial.opener l.kept.items l.opener
