use Rattle.sector.proofs.memory.Slot.settle_all.Given as goal
use Rattle.std.proofs.Common.{◌≡◌, ◌++◌, map, take, drop}
use Rattle.sector.specs.Slots.{settled_slot}

abbrev pub invariant-loop-i : goal.invariant-loop-i
invariant-loop-i l = l.slots.items ≡ map settled_slot (take l.i l.fn.slots.items) ++ drop l.i l.fn.slots.items
