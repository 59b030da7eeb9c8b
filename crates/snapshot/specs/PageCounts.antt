-- The pages that a range read counts: those behind the first of the range that a walk over its pairs goes on to.
use Rattle.std.specs.Prelude.{◌≡◌, ℕ, drop}
use Rattle.versions.specs.Lent.{GoesOn, pages_looked_at}
use Rattle.snapshot.specs.Ahead.{merged_pairs}
use Rattle.snapshot.specs.declared.merge.MergedPairs.{MergedPairs}
use Rattle.snapshot.specs.declared.rows.Rows.{Rows}

-- a walk that has given the first n of the pairs has counted so many pages
pub record CountsPagesBehind (m : MergedPairs) (n counted : ℕ) : Type 0 where
  pub rest : MergedPairs
  pub left : merged_pairs rest ≡ drop n (merged_pairs m)
  pub goes : GoesOn m.pairs rest.pairs
  pub is : counted ≡ pages_looked_at rest.pairs

-- so it is of the rows, when none of them is given yet
abbrev pub CountsItsPages : Rows → Type 0
CountsItsPages r = CountsPagesBehind r.rest r.left r.pages_looked_at
