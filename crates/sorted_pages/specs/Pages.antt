-- Pages of entries, all by rising key.
use Rattle.std.specs.Cmp.Lexicographic.{slice_cmp}
use Rattle.std.specs.FinMap.Entries.{below_all, find, is_sorted}
use Rattle.std.specs.List.{AllByRecursion, list_all}
use Rattle.std.specs.Ordering.{nat_cmp, is_le, is_lt}
use Rattle.std.specs.Prelude.{◌≡◌, ℕ, T, ◌+◌, ◌-◌, ◌*◌, ◌^◌, ◌<◌, ◌≤◌, min, fold, Bool, true, false, List, [], ◌∷◌}
use Rattle.std.specs.Prelude.{◌++◌, length, slice_get, slice_index_or, Option, Some, None, if◌then◌else◌, ⊤, ◌⊎◌, not}
use Rattle.std.specs.declared.cmp.Ordering.TheVariants.{Less}
use Rattle.model.specs.Entries.{IsGap}
use Rattle.model.specs.Map.{Bytes, key_cmp}
use Rattle.sorted_pages.specs.declared.changing.TheConstants.{FILL, FILL_PLACES, SPLIT_MIN}
use Rattle.sorted_pages.specs.declared.page.TheConstants.{PAGE_MAX}

-- the entries of a page, and how many more fit without memory
abbrev pub Page : Type 0 → Type 0
Page X = List (Bytes × X) × ℕ

-- pages, the numbers that are held, each in a place of its own, and a number after which no value has changed
pub record PagesValue (X : Type 0) : Type 0 where
  pub pages : List (Page X)
  pub held : List ℕ
  pub last : ℕ

-- the same numbers are held, and nothing has changed with a later number
pub record KeepsHeld {X : Type 0} (old new : PagesValue X) : Type 0 where
  pub held : new.held ≡ old.held
  pub last : new.last ≡ old.last

-- the same numbers are held, and the last change came with this number
pub record KeepsHeldTo {X : Type 0} (n : ℕ) (old new : PagesValue X) : Type 0 where
  pub held : new.held ≡ old.held
  pub last : new.last ≡ n

-- the last change came with n at most
pub record IsLastRaised {X : Type 0} (n : ℕ) (old new : PagesValue X) : Type 0 where
  pub held : new.held ≡ old.held
  pub last : new.last ≤ n

-- the entries of all pages, one page after another
abbrev pub entries : {X : Type 0} → List (Page X) → List (Bytes × X)
entries [] = []
entries (p ∷ ps) = p.0 ++ entries ps

-- the entries, and one more behind them where it came
abbrev pub pushed : {X : Type 0} → Bool → List (Bytes × X) → Bytes × X → List (Bytes × X)
pushed came es e = if came then es ++ e ∷ [] else es

-- the first key is at most k, or there is none
abbrev pub starts_by : {X : Type 0} → Bytes → List (Bytes × X) → Bool
starts_by k [] = true
starts_by k (e ∷ es) = is_le (key_cmp e.0 k)

-- there is an entry, and its key is below k
abbrev pub is_entry_below : {X : Type 0} → Bytes → Option (Bytes × X) → Bool
is_entry_below k None = false
is_entry_below k (Some e) = is_lt (key_cmp e.0 k)

-- k stands behind the last of the entries
abbrev pub stands_behind : {X : Type 0} → Bytes → List (Bytes × X) → Bool
stands_behind k es = is_entry_below k (slice_get es (length es - 1))

-- the room of the last of the pages that starts by k, and r where none does
abbrev pub last_room : {X : Type 0} → ℕ → Bytes → List (Page X) → ℕ
last_room r k [] = r
last_room r k (p ∷ ps) = last_room (if starts_by k p.0 then p.1 else r) k ps

-- how many more entries fit without memory in the page where k stands or would stand
abbrev pub room_at : {X : Type 0} → Bytes → List (Page X) → ℕ
room_at k [] = 0
room_at k (p ∷ ps) = last_room p.1 k ps

-- the last of the pages that starts by k, and r where none does
abbrev pub last_page : {X : Type 0} → Page X → Bytes → List (Page X) → Page X
last_page r k [] = r
last_page r k (p ∷ ps) = last_page (if starts_by k p.0 then p else r) k ps

-- how many entries the page has where k stands or would stand
abbrev pub count_at : {X : Type 0} → Bytes → List (Page X) → ℕ
count_at k [] = 0
count_at k (p ∷ ps) = length (last_page p k ps).0

-- the entries of the page where k stands or would stand
abbrev pub page_entries : {X : Type 0} → Bytes → List (Page X) → List (Bytes × X)
page_entries k [] = []
page_entries k (p ∷ ps) = (last_page p k ps).0

-- the first key is at most both, or at most neither
abbrev pub start_together : {X : Type 0} → Bytes → Bytes → List (Bytes × X) → Bool
start_together j k es = if starts_by j es then starts_by k es else not (starts_by k es)

-- j and k stand or would stand in the same page: each page but the first starts by both or by neither
abbrev pub is_together : {X : Type 0} → Bytes → Bytes → List (Page X) → Bool
is_together j k [] = true
is_together j k (p ∷ ps) = list_all (λ p. start_together j k p.0) ps

-- where k doesn't stand behind all entries of its page, its page has half as many entries as before, one more or less
pub record IsHalved {X : Type 0} (k : Bytes) (old new : List (Page X)) : Type 0 where
  pub low : stands_behind k (page_entries k old) ≡ false → count_at k old ≤ 2 * count_at k new + 1
  pub high : stands_behind k (page_entries k old) ≡ false → 2 * count_at k new ≤ count_at k old + 1

-- n more entries don't fit in the page where k stands or would stand, and are too many for it
pub record IsCrowded {X : Type 0} (k : Bytes) (n : ℕ) (ps : List (Page X)) : Type 0 where
  pub short : room_at k ps < n
  pub many : SPLIT_MIN ≤ count_at k ps
  pub over : PAGE_MAX < count_at k ps + n

-- a page is made where there is none, and else one that is crowded is split
abbrev pub IsPageWanted : {X : Type 0} → Bytes → ℕ → List (Page X) → Type 0
IsPageWanted k n ps = (ps ≡ []) ⊎ IsCrowded k n ps

-- no page has room for more than r entries
abbrev pub AreTight : {X : Type 0} → ℕ → List (Page X) → Type 0
AreTight r ps = AllByRecursion (λ p. p.1 ≤ r) ps

-- where no page had room for more than r entries, none has, whatever r is from this bound on
pub record StaysTight {X : Type 0} (bound : ℕ) (old new : List (Page X)) : Type 0 where
  pub tight : (r : ℕ) → bound ≤ r → AreTight r old → AreTight r new

-- how many entries the pages have places for, in use and free: 2^64 - 1 where there were more
abbrev pub places_in : {X : Type 0} → List (Page X) → ℕ
places_in ps = fold (λ n p. min (n + (length p.0 + p.1)) (2 ^ 64 - 1)) 0 ps

-- a page that entries come to by rising key: it has places for more, so that those that come in between find room
pub record IsLoose {X : Type 0} (p : Page X) : Type 0 where
  pub few : length p.0 ≤ FILL
  pub places : FILL_PLACES ≤ length p.0 + p.1

abbrev pub AreLoose : {X : Type 0} → List (Page X) → Type 0
AreLoose ps = AllByRecursion IsLoose ps

-- a page is full, or none is behind it
abbrev pub IsFullBefore : {X : Type 0} → Page X → List (Page X) → Type 0
IsFullBefore p [] = ⊤
IsFullBefore p (q ∷ ps) = FILL ≤ length p.0

-- each page but the last is full
abbrev pub AreFull : {X : Type 0} → List (Page X) → Type 0
AreFull [] = ⊤
AreFull (p ∷ ps) = IsFullBefore p ps × AreFull ps

-- each page is full
abbrev pub AreAllFull : {X : Type 0} → List (Page X) → Type 0
AreAllFull ps = AllByRecursion (λ p. FILL ≤ length p.0) ps

-- the page has an entry
abbrev pub HasEntry : {X : Type 0} → Page X → Type 0
HasEntry p = 0 < length p.0

-- each page but the first has an entry
abbrev pub RestHaveEntries : {X : Type 0} → List (Page X) → Type 0
RestHaveEntries [] = ⊤
RestHaveEntries (p ∷ ps) = AllByRecursion HasEntry ps

-- the keys of all pages rise strictly
pub record IsInOrder {X : Type 0} (ps : List (Page X)) : Type 0 where
  pub sorted : T (is_sorted (slice_cmp nat_cmp) (entries ps))
  pub filled : RestHaveEntries ps

-- the keys of the entries are below k
abbrev pub AreBelow : {X : Type 0} → Bytes → List (Bytes × X) → Type 0
AreBelow k es = AllByRecursion (λ e. key_cmp e.0 k ≡ Less) es

-- page i is the one where k stands or would stand
pub record IsPlace {X : Type 0} (ps : List (Page X)) (k : Bytes) (i : ℕ) : Type 0 where
  pub before : List (Page X)
  pub page : Page X
  pub after : List (Page X)
  pub is : ps ≡ before ++ page ∷ after
  pub index : length before ≡ i
  pub below : AreBelow k (entries before)
  pub starts : 0 < i → starts_by k page.0 ≡ true
  pub later : AllByRecursion (λ (p : Page X). starts_by k p.0 ≡ false) after
  pub above : T (below_all (slice_cmp nat_cmp) k (entries after))

-- k has no entry, and one would be inserted in page i, before its entry j
pub record IsInsertionPoint {X : Type 0} (ps : List (Page X)) (k : Bytes) (i j : ℕ) : Type 0 where
  pub absent : find (slice_cmp nat_cmp) k (entries ps) ≡ None
  pub page : 0 < length ps → IsPlace ps k i
  pub gap : 0 < length ps → (p : Page X) → IsGap (slice_index_or ps i p).0 k j

-- keys that stand in the same page stood in the same one before
abbrev pub StayApart : {X : Type 0} → List (Page X) → List (Page X) → Type 0
StayApart old new = (j k : Bytes) → is_together j k new ≡ true → is_together j k old ≡ true

-- the same entries, no less room for any key, and no more keys to a page
pub record IsRoomier {X : Type 0} (old new : List (Page X)) : Type 0 where
  pub entries : entries new ≡ entries old
  pub rooms : (q : Bytes) → room_at q old ≤ room_at q new
  pub apart : StayApart old new
