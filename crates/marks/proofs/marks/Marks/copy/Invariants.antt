use Rattle.marks.proofs.marks.Marks.copy.Given as goal
use Rattle.std.proofs.Common.{◌≡◌, take, length}
use Rattle.marks.specs.Marked.{marks_of}

-- the marks so far are copied
abbrev pub invariant-loop-mark : goal.invariant-loop-mark
invariant-loop-mark l = record { same : marks_of l.marks.items ≡ marks_of (take l.mark-index l.mark-items); many : length l.marks.items ≡ l.mark-index }
