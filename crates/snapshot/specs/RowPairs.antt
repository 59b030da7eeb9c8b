-- The pairs that rows have left, and how many pages the walk that found them has looked at.
use Rattle.std.specs.Prelude.{ℕ, take}
use Rattle.model.specs.Map.{KeyMap}
use Rattle.snapshot.specs.Ahead.{merged_pairs}
use Rattle.snapshot.specs.declared.rows.Rows.{Rows}

abbrev pub row_pairs : Rows → KeyMap
row_pairs r = take r.left (merged_pairs r.rest)

abbrev pub rows_looked_at : Rows → ℕ
rows_looked_at r = r.pages_looked_at
