use Rattle.sector.proofs.memory.MemSectors.new.Given as goal
use Rattle.std.proofs.Common.{◌≡◌, replicate, All}
use Rattle.sector.specs.Slots.{written, IsSettledSlot}

abbrev pub invariant-loop-i : goal.invariant-loop-i
invariant-loop-i l = record {
  image : written l.slots.items ≡ replicate l._i (replicate 512 0);
  settled : All IsSettledSlot l.slots.items;
}
