use Rattle.resp.proofs.writing.write_pairs.Given as goal
use Rattle.resp.proofs.Appending.{IsAdded}
use Rattle.resp.proofs.GivenPairs.{pairs_text}

abbrev pub invariant-loop-key : goal.invariant-loop-key
invariant-loop-key g l = IsAdded l.fn.out l.out (pairs_text l.fn.n l.yielded)
