use Rattle.pivot_check.proofs.part.Part.least_covered.Given as goal
use Rattle.std.proofs.Common.{◌≡◌, drop}
use Rattle.marks.specs.Marked.{marks_of}
use Rattle.pivot_check.specs.Bounds.{IsScanned}
use Rattle.pivot_check.specs.Places.{covered_at}
use Rattle.pivot_check.specs.Postings.{least, lesser}

-- what was found and the marks at the places that are left decide
abbrev pub invariant-loop-place : goal.invariant-loop-place
invariant-loop-place l =
    (lesser l.scan.found (least (covered_at (marks_of l.order.marks.now) (drop l.place-index l.places) l.begin l.flagged)
    (drop l.self.start l.self.written.items))
    ≡ lesser l.fn.found (least (covered_at (marks_of l.order.marks.now) l.places l.begin l.flagged) (drop l.self.start l.self.written.items)))
    × IsScanned l.scan l.begin l.flagged l.self.written.items
