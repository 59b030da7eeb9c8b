-- The marks of a transaction, and what one more does.
use Rattle.std.specs.List.{list_any}
use Rattle.std.specs.Prelude.{List, [], ◌∷◌, ◌++◌, Bool, length, nat_lt, if◌then◌else◌, not, ◌&&◌, option_map}
use Rattle.model.specs.Map.{Bytes}
use Rattle.model.specs.PrivateCopy.{Mark, is_same_mark}
use Rattle.model.specs.PrivateCopy.Mark.{OfKey, OfRange, OfClosedRange}
use Rattle.model.specs.declared.keys.KeyRef.{KeyRef}
use Rattle.model.specs.declared.ranges.RangeRef.{RangeRef}
use Rattle.marks.specs.declared.owned.OwnedMark.{OwnedMark}
use Rattle.marks.specs.declared.owned.OwnedMark.TheVariants.{Key, Range, ClosedRange}

abbrev pub mark_of : OwnedMark → Mark
mark_of (Key k) = OfKey k
mark_of (Range r) = OfRange r.lo r.hi
mark_of (ClosedRange lo last) = OfClosedRange lo last

abbrev pub marks_of : List OwnedMark → List Mark
marks_of [] = []
marks_of (h ∷ hs) = mark_of h ∷ marks_of hs

-- the least key that the mark may cover
abbrev pub start_of : Mark → Bytes
start_of (OfKey k) = k
start_of (OfRange lo hi) = lo
start_of (OfClosedRange lo last) = lo

abbrev pub range_mark : RangeRef → Mark
range_mark r = OfRange r.lo.bytes.now (option_map (λ k. k.bytes.now) r.hi)

abbrev pub closed_range_mark : KeyRef → KeyRef → Mark
closed_range_mark lo last = OfClosedRange lo.bytes.now last.bytes.now

abbrev pub has_mark : List Mark → Mark → Bool
has_mark ms m = list_any (is_same_mark m) ms

-- the mark is not there, and there is no room for one more
abbrev pub is_full_for_mark : List Mark → Mark → Bool
is_full_for_mark ms m = not (has_mark ms m) && not (nat_lt (length ms) 256)

-- the marks with this one
abbrev pub with_mark : List Mark → Mark → List Mark
with_mark ms m = if has_mark ms m then ms else ms ++ m ∷ []
