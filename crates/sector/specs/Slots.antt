-- What a crash may leave of a device in memory.
use Rattle.std.proofs.Common.{ap}
use Rattle.std.specs.Borrow.{Bor}
use Rattle.std.specs.Option.{is_none}
use Rattle.std.specs.Prelude.{◌≡◌, ◌⊎◌, ◌↔◌, ◌<◌, ◌-◌, ℕ, suc, Bool, false, List, [], ◌∷◌, length, map, slice_get}
use Rattle.std.specs.Prelude.{slice_index_or, slice_set, All, Some, None, IfSome, unwrap_or, refl, Result, IsErr}
use Rattle.sector.specs.Counts.{count_max, IsCounted}
use Rattle.sector.specs.declared.memory.MemSectors.{MemSectors}
use Rattle.sector.specs.declared.memory.Slot.{Slot}

-- what was last written to each sector
abbrev pub written : List Slot → List (List ℕ)
written slots = map (λ slot. slot.written) slots

abbrev pub IsSettledSlot : Slot → Type 0
IsSettledSlot slot = slot.settled ≡ None

-- what a crash makes of a sector: it is settled, and the same if it was settled before
abbrev pub IsLeft : Slot → Slot → Type 0
IsLeft old new = (new.settled ≡ None) × (old.settled ≡ None → new.written ≡ old.written)

-- after a crash a sector that was unsettled holds what is given of its settled and its last written content
abbrev pub IsFilled : (Bor (List ℕ) → Bor (List ℕ) → List ℕ → Type 0) → Slot → Slot → Type 0
IsFilled Gives old new =
    IfSome old.settled (λ settled. (was : Bor (List ℕ)) × (last : Bor (List ℕ)) × (was.now ≡ settled)
    × (last.now ≡ old.written) × Gives was last new.written)

-- and so does each of these, by its place
abbrev pub AreFilled : (ℕ → Bor (List ℕ) → Bor (List ℕ) → List ℕ → Type 0) → List Slot → List Slot → Type 0
AreFilled Gives old new = (k : ℕ) (d : Slot) → k < length old
    → IsFilled (Gives k) (slice_index_or old k d) (slice_index_or new k d)

-- a sector after a sync
abbrev pub settled_slot : Slot → Slot
settled_slot slot = record slot { settled = None }

-- anything where a sector was written since the last sync, and what was written elsewhere
abbrev pub MayLeave : List Slot → List (List ℕ) → Type 0
MayLeave [] [] = Unit {0}
MayLeave (slot ∷ slots) (s ∷ image) = (slot.settled ≡ None → s ≡ slot.written) × MayLeave slots image
MayLeave [] (s ∷ image) = ⊥
MayLeave (slot ∷ slots) [] = ⊥

-- a crash leaves each sector
pub length-left : (slots : List Slot) (c : List (List ℕ)) → MayLeave slots c → length c ≡ length slots
length-left [] [] left = refl
length-left [] (s ∷ c) left = absurd left
length-left (slot ∷ slots) [] left = absurd left
length-left (slot ∷ slots) (s ∷ c) left = ap suc (length-left slots c left.1)

-- the image of what was last written
abbrev pub image : MemSectors → List (List ℕ)
image device = written device.slots.items

-- a read gives what was last written
abbrev pub MayRead : MemSectors → ℕ → List ℕ → Type 0
MayRead device i s = slice_get (image device) i ≡ Some s

-- what a crash may leave of the device
abbrev pub MayBeLeft : MemSectors → List (List ℕ) → Type 0
MayBeLeft device c = MayLeave device.slots.items c

-- every sector is settled
abbrev pub IsAllSettled : MemSectors → Type 0
IsAllSettled device = All IsSettledSlot device.slots.items

-- what the last sync left in a sector
abbrev pub settled_content : Slot → List ℕ
settled_content slot = unwrap_or slot.settled slot.written

abbrev pub is_settled : Slot → Bool
is_settled slot = is_none slot.settled

-- what the last sync left in each sector
abbrev pub settled_image : MemSectors → List (List ℕ)
settled_image device = map settled_content device.slots.items

-- which sectors are settled
abbrev pub settled_sectors : MemSectors → List Bool
settled_sectors device = map is_settled device.slots.items

-- the sectors hold the same, and the same ones are settled
pub record HasSameSectors (old new : MemSectors) : Type 0 where
  pub content : image new ≡ image old
  pub settled : settled_image new ≡ settled_image old
  pub which : settled_sectors new ≡ settled_sectors old

-- this was written to the sector at this place, which is unsettled, and the others are as they were
pub record IsWritten (at : ℕ) (sector : List ℕ) (old new : MemSectors) : Type 0 where
  pub content : image new ≡ slice_set (image old) at sector
  pub settled : settled_image new ≡ settled_image old
  pub which : settled_sectors new ≡ slice_set (settled_sectors old) at false

-- each sector is settled, and holds the same
abbrev pub IsSettledAs : MemSectors → MemSectors → Type 0
IsSettledAs old new = (image new ≡ image old) × IsAllSettled new

-- how many calls from now the one comes that is to fail; 0 where none is
abbrev pub calls_to_failure : MemSectors → ℕ
calls_to_failure device = device.failing_call

-- the next call is to fail, or the count of failures stands at its end
abbrev pub FailsNext : MemSectors → Type 0
FailsNext device = (calls_to_failure device ≡ 1) ⊎ (device.failures ≡ count_max)

-- the call that is to fail has come one nearer
abbrev pub CountsDown : MemSectors → MemSectors → Type 0
CountsDown old new = old.failures < count_max → calls_to_failure new ≡ calls_to_failure old - 1

-- each sector is settled, no call of the device has failed, and none is to
pub record IsAsNew (device : MemSectors) : Type 0 where
  pub settled : IsAllSettled device
  pub none_failed : device.failures ≡ 0
  pub none_to_fail : calls_to_failure device ≡ 0

-- a call failed exactly where it was to fail, or the count of failures stood at its end; and it was counted
pub record FailsAsAsked {A E : Type 0} (old new : MemSectors) (result : Result A E) : Type 0 where
  pub fails : IsErr result ↔ FailsNext old
  pub counted : IsCounted result old.failures new.failures
  pub next : CountsDown old new
