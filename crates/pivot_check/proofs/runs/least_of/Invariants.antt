use Rattle.pivot_check.proofs.runs.least_of.Given as goal
use Rattle.std.proofs.Common.{◌≡◌, drop}
use Rattle.marks.specs.Lent.{lent_mark}
use Rattle.pivot_check.specs.Inside.{postings_in}
use Rattle.pivot_check.specs.Postings.{least, lesser, asked_of}

-- what was found and what is left of the runs decide
abbrev pub invariant-loop-run : goal.invariant-loop-run
invariant-loop-run l = lesser l.found (least (asked_of (lent_mark l.mark) l.begin l.flagged) (postings_in (drop l.run-index l.runs)))
    ≡ least (asked_of (lent_mark l.mark) l.begin l.flagged) (postings_in l.runs)
