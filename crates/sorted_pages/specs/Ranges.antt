-- The entries that a range has left.
use Rattle.std.specs.Borrow.{Bor}
use Rattle.std.specs.Cmp.Lexicographic.{slice_cmp}
use Rattle.std.specs.FinMap.Entries.{where_key}
use Rattle.std.specs.List.{AllByRecursion}
use Rattle.std.specs.Ordering.{nat_cmp, is_le}
use Rattle.std.specs.Prelude.{◌≡◌, ℕ, ◌<◌, ◌≤◌, ◌⊎◌, ◌+◌, Bool, true, false, List, [], ◌∷◌, ◌++◌, drop, length}
use Rattle.std.specs.Prelude.{if◌then◌else◌, Option, Some, None, ⊤}
use Rattle.model.specs.KeyBytes.{key_bytes, end_bytes}
use Rattle.model.specs.Map.{Bytes, key_cmp, is_below, is_in_range}
use Rattle.model.specs.declared.keys.KeyRef.{KeyRef}
use Rattle.sorted_pages.specs.Pages.{AreBelow, Page, entries}
use Rattle.sorted_pages.specs.Summaries.{is_passed}
use Rattle.sorted_pages.specs.declared.held.Reader.{Reader}
use Rattle.sorted_pages.specs.declared.range.Entries.{Entries}
use Rattle.sorted_pages.specs.declared.summary.Summary.{Summary}

-- the entries before the first whose key isn't below hi
abbrev pub up_to : {X : Type 0} → Option Bytes → List (Bytes × X) → List (Bytes × X)
up_to hi [] = []
up_to hi (e ∷ es) = if is_below e.0 hi then e ∷ up_to hi es else []

-- the entries that aren't hidden
abbrev pub shown : {X : Type 0} → (X → Bool) → List (Bytes × X) → List (Bytes × X)
shown hides [] = []
shown hides (e ∷ es) = if hides e.1 then shown hides es else e ∷ shown hides es

-- the pages that a range of the reader doesn't pass over
abbrev pub not_passed : {X : Type 0} → Reader → List (Page X) → List Summary → List (Page X)
not_passed r [] ss = []
not_passed r (p ∷ ps) [] = p ∷ not_passed r ps []
not_passed r (p ∷ ps) (s ∷ ss) = if is_passed r s then not_passed r ps ss else p ∷ not_passed r ps ss

-- the pages that a range looks at: the first of those that are left, and those behind it that it doesn't pass over
abbrev pub looked_at : {X : Type 0} → Reader → List (Page X) → List Summary → List (Page X)
looked_at r [] ss = []
looked_at r (p ∷ ps) ss = p ∷ not_passed r ps (drop 1 ss)

-- those of them that are behind the first
abbrev pub pages_ahead : {X Y : Type 0} {g : _} → Entries X Y g → List (Page X)
pages_ahead r = not_passed r.reader (drop 1 r.pages.now) (drop 1 r.summaries.now)

-- the entries of the pages that a range looks at, from a place of the first on
abbrev pub entries_from : {X : Type 0} → Reader → ℕ → List (Page X) → List Summary → List (Bytes × X)
entries_from r at [] ss = []
entries_from r at (p ∷ ps) ss = drop at p.0 ++ entries (not_passed r ps (drop 1 ss))

-- the entries that are left
abbrev pub entries_left : {X Y : Type 0} {g : _} → (ℕ → X → Bool) → Entries X Y g → List (Bytes × X)
entries_left hides r = up_to (end_bytes r.hi)
    (shown (hides r.reader.number) (entries_from r.reader r.at r.pages.now r.summaries.now))

-- the entries that aren't hidden and whose keys are at least lo and below hi
abbrev pub shown_in : {X : Type 0} → (X → Bool) → List (Page X) → Bytes → Option Bytes → List (Bytes × X)
shown_in hides ps lo hi = where_key (slice_cmp nat_cmp) (is_in_range lo hi) (shown hides (entries ps))

-- the first of the entries isn't hidden
abbrev pub IsFirstShown : {X : Type 0} → (X → Bool) → List (Bytes × X) → Type 0
IsFirstShown hides [] = ⊤
IsFirstShown hides (e ∷ es) = hides e.1 ≡ false

-- a lent entry's key and value
abbrev pub lent_entry : {X : Type 0} → KeyRef × Bor X → Bytes × X
lent_entry e = (key_bytes e.0, e.1.now)

-- k is at most each of the keys
abbrev pub AreFrom : {X : Type 0} → Bytes → List (Bytes × X) → Type 0
AreFrom k es = AllByRecursion (λ e. is_le (key_cmp k e.0) ≡ true) es

-- fs are those of the entries whose keys are at least k
pub record IsTail {X : Type 0} (es : List (Bytes × X)) (k : Bytes) (fs : List (Bytes × X)) : Type 0 where
  pub before : List (Bytes × X)
  pub is : es ≡ before ++ fs
  pub below : AreBelow k before
  pub from : AreFrom k fs

-- the key of the first entry
abbrev pub first_key : {X : Type 0} → List (Bytes × X) → Option Bytes
first_key [] = None
first_key (e ∷ es) = Some e.0

-- the least of the keys that are at least k, where there is one
pub record IsLeastFrom {X : Type 0} (es : List (Bytes × X)) (k : Bytes) (least : Option Bytes) : Type 0 where
  pub tail : List (Bytes × X)
  pub from : IsTail es k tail
  pub is : least ≡ first_key tail

-- a range that goes up to hi has of these pages, up to this bound, what it has of those
abbrev pub IsCutAlike : {X : Type 0} → List (Page X) → Bytes → List (Page X) → Option Bytes → Type 0
IsCutAlike {X} ps hi qs bound =
    (hides : X → Bool) (lo : Bytes) → shown_in hides qs lo bound ≡ shown_in hides ps lo (Some hi)

-- whether the reader sees something of a page is known of each page: its number is held, or nothing has changed since
abbrev pub KnowsPages : Reader → List Summary → Type 0
KnowsPages r ss = (0 < r.bit) ⊎ AllByRecursion (λ s. s.last ≤ r.number) ss

-- the first n of the pages that were ahead were looked at: those behind them are left, and the count has risen by n
pub record LooksAhead {X : Type 0} (old new : List X) (before after : ℕ) : Type 0 where
  pub n : ℕ
  pub within : n ≤ length old
  pub left : new ≡ drop n old
  pub counted : after ≡ before + n

-- the pages that are left to look at are those that were, without the first, and each of these is counted
abbrev pub GoesOn : {X Y : Type 0} {g : _} → Entries X Y g → Entries X Y g → Type 0
GoesOn old new = LooksAhead (pages_ahead old) (pages_ahead new) old.pages_looked_at new.pages_looked_at
