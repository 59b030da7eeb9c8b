-- What a mark covers is an interval from its start on.
use Rattle.std.proofs.Common.{◌≡◌, false, arith}
use Rattle.std.proofs.lemmas.Grind.{common_steps}
use Rattle.std.specs.Ordering.{is_lt}
use Rattle.std.specs.declared.cmp.Ordering.TheVariants.{Less}
use Rattle.model.proofs.Entries.{turned}
use Rattle.model.proofs.KeyOrder.{less_trans, same_keys}
use Rattle.model.specs.Map.{Bytes, key_cmp}
use Rattle.model.specs.PrivateCopy.{Mark, covers}
use Rattle.model.specs.PrivateCopy.Mark.{OfKey, OfRange, OfClosedRange}
use Rattle.marks.specs.Marked.{start_of}

-- none of the keys below the start
pub covers_below : (m : Mark) (q : Bytes) → key_cmp q (start_of m) ≡ Less → covers m q ≡ false
covers_below (OfKey k) q h = grind (arith, turned q k)
covers_below (OfRange lo hi) q h = grind (arith, turned q lo)
covers_below (OfClosedRange lo last) q h = grind (arith, turned q lo)

-- and from a key on that it doesn't cover, none
pub covers_above : (m : Mark) (q p : Bytes) → is_lt (key_cmp q (start_of m)) ≡ false → covers m q ≡ false → key_cmp q p ≡ Less → covers m p ≡ false
covers_above (OfKey k) q p from e h = grind (arith, common_steps, same_keys k p)
covers_above (OfRange lo hi) q p from e h = grind (arith, common_steps, turned q lo, less_trans q p)
covers_above (OfClosedRange lo last) q p from e h = grind (arith, common_steps, turned q lo, less_trans q p last, same_keys p last)
