use Rattle.marks.proofs.marks.Marks.has_range.Given as goal
use Rattle.std.proofs.Common.{◌≡◌, drop}
use Rattle.marks.specs.Marked.{marks_of, has_mark, range_mark}

-- what is left of the marks decides
abbrev pub invariant-loop-mark : goal.invariant-loop-mark
invariant-loop-mark l = has_mark (marks_of (drop l.mark-index l.mark-items)) (range_mark l.range) ≡ has_mark l.self (range_mark l.range)
