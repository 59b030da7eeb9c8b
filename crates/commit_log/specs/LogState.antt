-- What a log stands for.
use Rattle.std.specs.Prelude.{◌≡◌, ◌⊎◌, ◌≤◌, ◌<◌, ℕ, ◌+◌, ◌-◌, ◌/◌, ◌%◌, ◌^◌, Bool, false, List, [], ◌∷◌, ◌++◌}
use Rattle.std.specs.Prelude.{length, take, slice_set, Result, OnOk}
use Rattle.model.specs.Map.{KeyWrite}
use Rattle.sector.specs.SectorModel.{FollowsWrites, IsSettled, IsSameElsewhere, LeavesNoMore, LeavesOnly}
use Rattle.sector.specs.SectorModel.{ReadsNoMoreOutside}
use Rattle.sector.specs.declared.device.Sectors.{Ghosts}
use Rattle.commit_log.specs.Format.{current}
use Rattle.commit_log.specs.LogImage.{IsLogImage, span, last_digest, next_index}
use Rattle.commit_log.specs.RecordFormat.{IsWriteSet, body_sectors, padded_body, first_digest, closed_gate}
use Rattle.commit_log.specs.Staging.{IsStaged}
use Rattle.commit_log.specs.declared.log.Log.{Log}

-- how many records a log has, and how many sectors it uses, up to and with its closed gate
abbrev pub record_count : {D : Type 0} {g : Ghosts D} → Log D g → ℕ
record_count log = log.records

abbrev pub used_sectors : {D : Type 0} {g : Ghosts D} → Log D g → ℕ
used_sectors log = log.gate + 1

-- whether the device has failed under it
abbrev pub is_log_stopped : {D : Type 0} {g : Ghosts D} → Log D g → Bool
is_log_stopped log = log.stopped

abbrev pub log_device : {D : Type 0} {g : Ghosts D} → Log D g → D
log_device log = log.device

-- how many sectors its device has, and how many calls of it have failed
abbrev pub sector_count : {D : Type 0} {g : Ghosts D} → Log D g → ℕ
sector_count {g = g} log = g.size log.device

abbrev pub failure_count : {D : Type 0} {g : Ghosts D} → Log D g → ℕ
failure_count {g = g} log = g.failures log.device

-- how many syncs it was asked for
abbrev pub sync_count : {D : Type 0} {g : Ghosts D} → Log D g → ℕ
sync_count {g = g} log = g.syncs log.device

-- it has as many records as before, in as many sectors
abbrev pub HasSameRecords : {D : Type 0} {g : Ghosts D} → Log D g → Log D g → Type 0
HasSameRecords old new = (record_count new ≡ record_count old) × (used_sectors new ≡ used_sectors old)

-- no closed gate would fit behind the record of these writes
abbrev pub LacksRoom : {D : Type 0} {g : Ghosts D} → Log D g → List KeyWrite → Type 0
LacksRoom log writes = sector_count log ≤ used_sectors log + body_sectors writes

-- reads of the device give this image, and a crash leaves nothing else
abbrev pub Holds : {D : Type 0} → Ghosts D → D → List (List ℕ) → Type 0
Holds g device image = IsSettled (g.size device) (g.may_read device) (g.may_leave device) image

-- the device holds the log of these write sets
abbrev pub HoldsLog : {D : Type 0} → Ghosts D → D → List (List KeyWrite) → Type 0
HoldsLog g device lists = (image : List (List ℕ)) × Holds g device image × IsLogImage current lists image

-- a crash leaves the log of these write sets
abbrev pub LeavesLog : {D : Type 0} → Ghosts D → D → List (List KeyWrite) → Type 0
LeavesLog g device lists = LeavesNoMore (IsLogImage current lists) (g.may_leave device)

-- The log that isn't stopped stands for these write sets: reads give an image of them, and a crash leaves it.
pub record StandsFor {D : Type 0} {g : Ghosts D} (log : Log D g) (lists : List (List KeyWrite)) : Type 0 where
  pub running : log.stopped ≡ false
  pub gate : log.gate ≡ 1 + span lists
  pub records : log.records ≡ length lists
  pub digest : log.digest ≡ last_digest lists 0 first_digest
  pub settled : HoldsLog g log.device lists
  pub left : LeavesLog g log.device lists

-- P of the write sets that the log stands for
abbrev pub OfItsLists : {D : Type 0} {g : Ghosts D} → Log D g → (List (List KeyWrite) → Type 0) → Type 0
OfItsLists log P = (lists : List (List KeyWrite)) → StandsFor log lists → P lists

-- the image is a log of these write sets, or of them and one more
abbrev pub IsBeforeOrAfter : List (List KeyWrite) → List KeyWrite → List (List ℕ) → Type 0
IsBeforeOrAfter lists writes c = IsLogImage current lists c ⊎ IsLogImage current (lists ++ writes ∷ []) c

-- a crash since old leaves the log of these write sets, or of them and one more
abbrev pub LeavesEither : {D : Type 0} → Ghosts D → D → D → List (List KeyWrite) → List KeyWrite → Type 0
LeavesEither g old new lists writes = LeavesOnly g.moment g.left_since old new (IsBeforeOrAfter lists writes)

-- a crash since an append began leaves the write sets that the log stood for, with these writes or without
abbrev pub AppendLeaves : {D : Type 0} {g : Ghosts D} → Log D g → Log D g → List KeyWrite → Type 0
AppendLeaves {g = g} old new writes =
    OfItsLists old (λ lists. LeavesEither g (log_device old) (log_device new) lists writes)

-- so does a crash behind it
abbrev pub AppendLeft : {D : Type 0} {g : Ghosts D} → Log D g → Log D g → List KeyWrite → Type 0
AppendLeft {g = g} old new writes =
    OfItsLists old (λ lists. LeavesNoMore (IsBeforeOrAfter lists writes) (g.may_leave (log_device new)))

-- Only these n sectors are written: reads of the others give no more than before, and a crash at any moment leaves
-- those as before.
pub record OnlyWrites {D : Type 0} (g : Ghosts D) (at n : ℕ) (old new : D) : Type 0 where
  pub others : ReadsNoMoreOutside at n (g.may_read old) (g.may_read new)
  pub left : LeavesNoMore (FollowsWrites at n (g.may_leave old)) (g.may_leave new)
  pub time : LeavesOnly g.moment g.left_since old new (FollowsWrites at n (g.may_leave old))

-- only the record of these writes is written, from the gate where it begins to the closed gate behind it
abbrev pub OnlyAppends : {D : Type 0} {g : Ghosts D} → Log D g → Log D g → List KeyWrite → Type 0
OnlyAppends {g = g} old new writes =
    OnlyWrites g (used_sectors old - 1) (body_sectors writes + 2) (log_device old) (log_device new)

-- an image that is the same as one of these before this sector
abbrev pub IsSameBefore : ℕ → (List (List ℕ) → Type 0) → List (List ℕ) → Type 0
IsSameBefore at may_leave c = (d : List (List ℕ)) × may_leave d × (take at c ≡ take at d)

-- The image while a device is made an empty log: one of these but for sector 1, or, with the closed gate there, but for
-- sector 0.
abbrev pub IsBeingMade : (List (List ℕ) → Type 0) → List (List ℕ) → Type 0
IsBeingMade may_leave c =
    (d : List (List ℕ)) × may_leave d × (IsSameElsewhere 1 d c ⊎ IsSameElsewhere 0 (slice_set d 1 closed_gate) c)

-- No sector but the first two is written, and a crash at any moment finds the head only where it finds the closed gate.
pub record OnlyFormats {D : Type 0} (g : Ghosts D) (old new : D) : Type 0 where
  pub any_moment : LeavesOnly g.moment g.left_since old new (IsBeingMade (g.may_leave old))
  pub others : (i : ℕ) (s : List ℕ) → 2 ≤ i → g.may_read new i s → g.may_read old i s

-- this body, which is whole sectors, has room behind its gate, and a sector more
pub record FitsBehind (size gate : ℕ) (body : List ℕ) : Type 0 where
  pub whole : length body % 512 ≡ 0
  pub room : gate + 1 + length body / 512 < size
  pub fits : gate + 1 + length body / 512 < 2 ^ 64

-- these bytes are the body of this write set's record behind those of the others, and this is its gate
pub record IsNextRecord (lists : List (List KeyWrite)) (writes : List KeyWrite) (gate : ℕ) (bytes : List ℕ) : Type 0
  where
    pub proper : IsWriteSet current writes
    pub gate_is : gate ≡ 1 + span lists
    pub sectors : length bytes / 512 ≡ body_sectors writes
    pub bytes_are : bytes ≡ padded_body (last_digest lists 0 first_digest) (next_index lists 0) writes

-- where a crash leaves a log, and these bytes are the body of its next record, P of its write sets and of the record's
abbrev pub OfNextRecord : {D : Type 0} → Ghosts D → D → ℕ → List ℕ → (List (List KeyWrite) → List KeyWrite → Type 0)
    → Type 0
OfNextRecord g device gate bytes P =
    (lists : List (List KeyWrite)) (writes : List KeyWrite) → IsNextRecord lists writes gate bytes
    → LeavesLog g device lists → P lists writes

-- a crash leaves the log of these write sets, with one more staged
abbrev pub LeavesStaged : {D : Type 0} → Ghosts D → D → List (List KeyWrite) → List KeyWrite → Type 0
LeavesStaged g device lists writes = LeavesNoMore (IsStaged current lists writes) (g.may_leave device)

-- where a crash leaves a log with a record staged behind this gate, P of its write sets and of the record's
abbrev pub OfStaged : {D : Type 0} → Ghosts D → D → ℕ → (List (List KeyWrite) → List KeyWrite → Type 0) → Type 0
OfStaged g device gate P =
    (lists : List (List KeyWrite)) (writes : List KeyWrite) → gate ≡ 1 + span lists → IsWriteSet current writes
    → LeavesStaged g device lists writes → P lists writes

-- the device holds the log of these write sets and one more
abbrev pub HoldsBoth : {D : Type 0} → Ghosts D → D → List (List KeyWrite) → List KeyWrite → Type 0
HoldsBoth g device lists writes = HoldsLog g device (lists ++ writes ∷ [])

-- at `Ok`, P of write sets and of one more
abbrev pub AtOk : {T E : Type 0} → Result T E → (List (List KeyWrite) → List KeyWrite → Type 0) → List (List KeyWrite)
    → List KeyWrite → Type 0
AtOk result P lists writes = OnOk result (P lists writes)
