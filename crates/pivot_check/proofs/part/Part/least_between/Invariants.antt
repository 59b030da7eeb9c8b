use Rattle.pivot_check.proofs.part.Part.least_between.Given as goal
use Rattle.std.proofs.Common.{◌≡◌, ◌*◌}
use Rattle.std.specs.Prelude.{max}
use Rattle.pivot_check.specs.Postings.{least, lesser, is_asked, between}

-- what was found and what is left of the postings decide
abbrev pub invariant-loop-block : goal.invariant-loop-block
invariant-loop-block l =
    lesser l.found (least (is_asked l.begin l.flagged) (between (max l.span.first (64 * l.block)) l.span.end l.self.written.items))
    ≡ lesser l.fn.found (least (is_asked l.begin l.flagged) (between l.span.first l.span.end l.self.written.items))
