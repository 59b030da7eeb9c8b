use Rattle.pivot_check.proofs.runs.least_covered.Given as goal
use Rattle.std.proofs.Common.{◌≡◌, drop}
use Rattle.marks.specs.Marked.{marks_of}
use Rattle.pivot_check.specs.Inside.{postings_in}
use Rattle.pivot_check.specs.Postings.{least, lesser, covered_of}

-- what was found and what is left of the runs decide
abbrev pub invariant-loop-run : goal.invariant-loop-run
invariant-loop-run l = lesser l.found (least (covered_of (marks_of l.order.marks.now) l.begin l.flagged) (postings_in (drop l.run-index l.runs)))
    ≡ least (covered_of (marks_of l.order.marks.now) l.begin l.flagged) (postings_in l.runs)
