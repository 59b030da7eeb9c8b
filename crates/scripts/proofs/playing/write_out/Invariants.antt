use Rattle.scripts.proofs.playing.write_out.Given as goal
use Rattle.scripts.proofs.Writing.{Written}

-- the writer took the bytes before `rest`
abbrev pub invariant-loop : goal.invariant-loop
invariant-loop g l = Written (g.O.Write.contents l.fn.out) (g.O.Write.contents l.out) l.fn.bytes l.rest
