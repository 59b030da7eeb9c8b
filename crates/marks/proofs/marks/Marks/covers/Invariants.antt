use Rattle.marks.proofs.marks.Marks.covers.Given as goal
use Rattle.std.proofs.Common.{◌≡◌, drop}
use Rattle.model.specs.PrivateCopy.{is_covered}
use Rattle.marks.specs.Marked.{marks_of}

-- what is left of the marks decides
abbrev pub invariant-loop-mark : goal.invariant-loop-mark
invariant-loop-mark l = is_covered (marks_of (drop l.mark-index l.mark-items)) l.key.bytes.now ≡ is_covered l.self l.key.bytes.now
