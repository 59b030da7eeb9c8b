use Rattle.scripts.proofs.lines.write_on_one_line.Given as goal
use Rattle.std.proofs.Common.{◌≡◌, ◌++◌, length}
use Rattle.scripts.specs.Lines.{on_one_line}

abbrev pub invariant-loop-rest : goal.invariant-loop-rest
invariant-loop-rest l = l.line.items ++ on_one_line l.rest ≡ l.fn.line.items ++ on_one_line l.text

abbrev pub decreases-loop-rest : goal.decreases-loop-rest
decreases-loop-rest l = length l.rest
