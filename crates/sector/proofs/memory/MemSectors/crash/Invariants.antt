use Rattle.sector.proofs.memory.MemSectors.crash.Given as goal
use Rattle.std.proofs.Common.{◌≡◌, ◌<◌, ◌≤◌, ℕ, length, get_or, IfSome}
use Rattle.sector.specs.Slots.{IsLeft}
use Rattle.sector.specs.declared.memory.Slot.{Slot}

abbrev pub invariant-loop-i : goal.invariant-loop-i
invariant-loop-i g l = record {
  size : length l.slots.items ≡ length l.initial.slots.items;
  done : (k : ℕ) (d : Slot) → k < l.i → IsLeft (get_or l.initial.slots.items k d) (get_or l.slots.items k d);
  filled : (k : ℕ) (d : Slot) → k < l.i
      → IfSome (get_or l.initial.slots.items k d).settled (λ settled. (old : _) × (new : _) × (old.now ≡ settled)
      × (new.now ≡ (get_or l.initial.slots.items k d).written) × goal.F-post g l.fill k old new (get_or l.slots.items k d).written);
  rest : (k : ℕ) (d : Slot) → l.i ≤ k → get_or l.slots.items k d ≡ get_or l.initial.slots.items k d;
}
