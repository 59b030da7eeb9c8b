use Rattle.scripts.proofs.lines.parts_of.Given as goal
use Rattle.scripts.proofs.Lent.{ArePartsTo}

abbrev pub invariant-loop-i : goal.invariant-loop-i
invariant-loop-i l = ArePartsTo l.words l.parts l.i
