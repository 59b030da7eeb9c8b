-- Where the slots of a device in memory are settled.
use Rattle.std.specs.Prelude.{◌≡◌, ◌<◌, ◌≤◌, ℕ, List, length, None, slice_index_or}
use Rattle.sector.specs.declared.memory.Slot.{Slot}

-- each of the first n slots is settled
abbrev pub AreSettledBefore : ℕ → List Slot → Type 0
AreSettledBefore n slots = (k : ℕ) (d : Slot) → k < length slots → k < n → (slice_index_or slots k d).settled ≡ None

-- each slot from the place n on is settled
abbrev pub AreSettledFrom : ℕ → List Slot → Type 0
AreSettledFrom n slots = (k : ℕ) (d : Slot) → k < length slots → n ≤ k → (slice_index_or slots k d).settled ≡ None
