use Rattle.sector.proofs.memory.MemSectors.from_image.Given as goal
use Rattle.std.proofs.Common.{◌≡◌, ◌++◌, ◌%◌, length, All}
use Rattle.std.specs.List.{concat}
use Rattle.sector.specs.Slots.{written, IsSettledSlot}

abbrev pub invariant-loop-rest : goal.invariant-loop-rest
invariant-loop-rest l = record {
  image : concat (written l.slots.items) ++ l.rest ≡ l.fn.bytes;
  settled : All IsSettledSlot l.slots.items;
  whole : length l.rest % 512 ≡ 0;
}

abbrev pub decreases-loop-rest : goal.decreases-loop-rest
decreases-loop-rest l = length l.rest
