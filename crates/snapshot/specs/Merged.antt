-- The pairs that a range read answers: a map's pairs with the writes over them.
use Rattle.std.specs.Cmp.Lexicographic.{slice_cmp}
use Rattle.std.specs.FinMap.Entries.{by_order, where_key}
use Rattle.std.specs.Ordering.{nat_cmp}
use Rattle.std.specs.Prelude.{ℕ, List, [], ◌∷◌, Option, Some, None, take, Bool, not, ◌&&◌, ◌||◌, if◌then◌else◌}
use Rattle.model.specs.KeyBytes.{key_bytes, end_bytes}
use Rattle.model.specs.Map.{Bytes, KeyMap, KeyWrite, key_cmp, is_in_range, is_empty_range, pairs_in_range}
use Rattle.model.specs.PrivateCopy.{Mark, mark_up_to, mark_of_reply}
use Rattle.model.specs.declared.keys.KeyRef.{KeyRef}
use Rattle.model.specs.declared.ranges.RangeRef.{RangeRef}
use Rattle.marks.specs.Marked.{has_mark, is_full_for_mark, with_mark}
use Rattle.snapshot.specs.View.{View, marked}

abbrev pub with_pair : Bytes → Option Bytes → KeyMap → KeyMap
with_pair k None ps = ps
with_pair k (Some v) ps = (k, v) ∷ ps

-- the pairs with one write in its place, and then f of what is left
abbrev pub merged_one : KeyWrite → (KeyMap → KeyMap) → KeyMap → KeyMap
merged_one w f [] = with_pair w.0 w.1 (f [])
merged_one w f (p ∷ ps) =
    by_order (key_cmp w.0 p.0) (with_pair w.0 w.1 (f (p ∷ ps))) (with_pair w.0 w.1 (f ps)) (p ∷ merged_one w f ps)

-- the pairs with the writes over them, both by rising key
abbrev pub merged : List KeyWrite → KeyMap → KeyMap
merged [] ps = ps
merged (w ∷ ws) ps = merged_one w (merged ws) ps

-- the marks that reads of a range ask for: up to an end, where there is one, and of the page that was answered
abbrev pub mark_to : RangeRef → Option KeyRef → Mark
mark_to r end = mark_up_to (key_bytes r.lo) (end_bytes r.hi) (end_bytes end)

abbrev pub page_mark : RangeRef → ℕ → KeyMap → Mark
page_mark r limit page = mark_of_reply (key_bytes r.lo) (end_bytes r.hi) limit page

-- the marks with that of the page, which is none where the range is empty
abbrev pub with_page_marks : List Mark → RangeRef → ℕ → KeyMap → List Mark
with_page_marks ms r limit page =
    if is_empty_range (key_bytes r.lo) (end_bytes r.hi) then ms else with_mark ms (page_mark r limit page)

-- the page needs a mark for which there is no room, and it needs no new mark
abbrev pub is_full_for_page : List Mark → RangeRef → ℕ → KeyMap → Bool
is_full_for_page ms r limit page =
    not (is_empty_range (key_bytes r.lo) (end_bytes r.hi)) && is_full_for_mark ms (page_mark r limit page)

abbrev pub has_page : List Mark → RangeRef → ℕ → KeyMap → Bool
has_page ms r limit page = is_empty_range (key_bytes r.lo) (end_bytes r.hi) || has_mark ms (page_mark r limit page)

-- all pairs of the range in the transaction's copy of the map m
abbrev pub all_rows : View → KeyMap → RangeRef → KeyMap
all_rows t m r =
    merged (where_key (slice_cmp nat_cmp) (is_in_range (key_bytes r.lo) (end_bytes r.hi)) t.writes)
    (pairs_in_range m (key_bytes r.lo) (end_bytes r.hi))

-- what a range read of the transaction over the map m answers
abbrev pub rows_of : View → KeyMap → RangeRef → ℕ → KeyMap
rows_of t m r limit = take limit (all_rows t m r)

-- the transaction after a read of the range
abbrev pub after_range : View → KeyMap → RangeRef → ℕ → View
after_range t m r limit =
    if is_empty_range (key_bytes r.lo) (end_bytes r.hi) then t else marked t (page_mark r limit (rows_of t m r limit))

-- the read needs a mark for which there is no room
abbrev pub is_full_range : View → KeyMap → RangeRef → ℕ → Bool
is_full_range t m r limit = is_full_for_page t.marks r limit (rows_of t m r limit)
