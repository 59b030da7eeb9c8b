-- The parts of a run.
use Rattle.std.specs.Prelude.{ℕ, ◌-◌, List, ◌++◌, length, drop}
use Rattle.pivot_check.specs.Postings.{Posting}
use Rattle.pivot_check.specs.declared.part.Part.{Part}

-- what wasn't taken of a part
abbrev pub remaining : Part → List Posting
remaining p = drop p.start p.written.items

-- how much that is
abbrev pub left : Part → ℕ
left p = length p.written.items - p.start

-- the postings of a run: what was made, and what is left of the two that it is made of
abbrev pub remaining_in : Part → Part → Part → List Posting
remaining_in made first second = remaining made ++ (remaining first ++ remaining second)
