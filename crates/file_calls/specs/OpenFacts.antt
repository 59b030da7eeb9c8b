-- The facts of a file as it stands after so many calls: what a read may give, what a crash may leave, the moment, and
-- what a crash since a moment may have left. They are left open: no definition here but `file_after_call` unfolds, and
-- no lemma is about one, so that nothing can be shown of them nor refuted. For a file that no run had, nothing may be
-- read or left.
use Rattle.std.specs.Prelude.{ℕ, ◌+◌, ◌-◌, ◌^◌, List, min}
use Rattle.file_calls.specs.declared.counted.CountedFile.{CountedFile}

pub may_read : CountedFile → ℕ → List ℕ → Type 0
may_read file i sector = Unit {0}

pub may_leave : CountedFile → List (List ℕ) → Type 0
may_leave file image = Unit {0}

pub moment : CountedFile → ℕ
moment file = 0

pub left_since : CountedFile → ℕ → List (List ℕ) → Type 0
left_since file t image = Unit {0}

-- the file after one call more
abbrev pub file_after_call : CountedFile → CountedFile
file_after_call file = record file { calls = min (file.calls + 1) (2 ^ 64 - 1) }
