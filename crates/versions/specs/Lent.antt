-- The pairs that a range of versions has left.
use Rattle.model.specs.Map.{KeyMap}
use Rattle.std.specs.Prelude.{ℕ, List}
use Rattle.sorted_pages.specs.Pages.{Page}
use Rattle.sorted_pages.specs.Ranges.{LooksAhead, entries_left, pages_ahead as entries_pages_ahead}
use Rattle.versions.specs.Chains.{ChainValue, hides, visible}
use Rattle.versions.specs.declared.pairs.Pairs.{Pairs}

abbrev pub range_pairs : Pairs → KeyMap
range_pairs p = visible p.n (entries_left hides p.entries)

-- the pages behind the first that it is still to look at
abbrev pub pages_ahead : Pairs → List (Page ChainValue)
pages_ahead p = entries_pages_ahead p.entries

-- how many of them it has looked at
abbrev pub pages_looked_at : Pairs → ℕ
pages_looked_at p = p.entries.pages_looked_at

-- the pages that are left to look at are those that were, without the first, and each of these is counted
abbrev pub GoesOn : Pairs → Pairs → Type 0
GoesOn old new = LooksAhead (pages_ahead old) (pages_ahead new) (pages_looked_at old) (pages_looked_at new)
