use Rattle.marks.proofs.marks.Marks.has_key.Given as goal
use Rattle.std.proofs.Common.{◌≡◌, drop}
use Rattle.model.specs.PrivateCopy.Mark.{OfKey}
use Rattle.marks.specs.Marked.{marks_of, has_mark}

-- what is left of the marks decides
abbrev pub invariant-loop-mark : goal.invariant-loop-mark
invariant-loop-mark l = has_mark (marks_of (drop l.mark-index l.mark-items)) (OfKey l.key.bytes.now) ≡ has_mark l.self (OfKey l.key.bytes.now)
