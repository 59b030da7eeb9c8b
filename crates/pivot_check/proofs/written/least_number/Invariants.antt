use Rattle.pivot_check.proofs.written.least_number.Given as goal
use Rattle.std.proofs.Common.{◌≡◌, drop}
use Rattle.pivot_check.specs.Postings.{least, lesser, is_asked}

-- what was found and what is left of the postings decide
abbrev pub invariant-loop-posting : goal.invariant-loop-posting
invariant-loop-posting l =
    lesser l.found (least (is_asked l.begin l.flagged) (drop l.posting-index l.postings)) ≡ lesser l.fn.found (least (is_asked l.begin l.flagged) l.postings)
