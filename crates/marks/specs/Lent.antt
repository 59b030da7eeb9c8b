-- A lent mark as contracts see it.
use Rattle.std.specs.Prelude.{option_map}
use Rattle.model.specs.PrivateCopy.{Mark}
use Rattle.model.specs.PrivateCopy.Mark.{OfKey, OfRange, OfClosedRange}
use Rattle.marks.specs.declared.lent.MarkRef.{MarkRef}
use Rattle.marks.specs.declared.lent.MarkRef.TheVariants.{Key, Range, ClosedRange}

abbrev pub lent_mark : MarkRef → Mark
lent_mark (Key k) = OfKey k.bytes.now
lent_mark (Range r) = OfRange r.lo.bytes.now (option_map (λ k. k.bytes.now) r.hi)
lent_mark (ClosedRange lo last) = OfClosedRange lo.bytes.now last.bytes.now
