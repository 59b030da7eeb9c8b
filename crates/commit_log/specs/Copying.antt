-- A copy of a map: the log whose records put the map's pairs, by rising key, 64 to a record.
use Rattle.std.specs.Prelude.{◌≡◌, ◌⊎◌, ◌<◌, ◌≤◌, ◌↔◌, ℕ, zero, suc, ◌+◌, ◌*◌, ◌/◌, ◌^◌, List, [], ◌∷◌, ◌++◌, length}
use Rattle.std.specs.Prelude.{take, drop, replicate, slice_get, get_or, Some, Result, OnOk, IfOk, IfErr, IsErrOf}
use Rattle.model.specs.Bounds.{value_max, body_bound}
use Rattle.model.specs.Map.{KeyMap, KeyWrite, IsInBounds}
use Rattle.sector.specs.SectorModel.{IsSameElsewhere, LeavesNoMore, LeavesOnly}
use Rattle.sector.specs.declared.device.Sectors.{Ghosts}
use Rattle.commit_log.specs.Format.{current, head_sector}
use Rattle.commit_log.specs.LogImage.{IsLogImage, span}
use Rattle.commit_log.specs.LogState.{IsSameBefore, OnlyWrites}
use Rattle.commit_log.specs.Opening.{MightHold}
use Rattle.commit_log.specs.Reading.{OnlyReads}
use Rattle.commit_log.specs.RecordFormat.{first_digest, body_sectors, closed_gate, open_gate, padded_body}
use Rattle.commit_log.specs.RecordFormat.{record_body, record_digest, sectors_in}
use Rattle.commit_log.specs.Recovery.{map_after}
use Rattle.commit_log.specs.declared.faults.LogFault.{LogFault}
use Rattle.commit_log.specs.declared.faults.LogFault.TheVariants.{Full, Device, Memory, NotEmpty}

-- a put of each pair
abbrev pub puts : KeyMap → List KeyWrite
puts [] = []
puts (p ∷ m) = (p.0, Some p.1) ∷ puts m

-- n write sets: the first pairs, 64 to each while there are as many
abbrev pub first_sets : ℕ → KeyMap → List (List KeyWrite)
first_sets zero m = []
first_sets (suc n) m = puts (take 64 m) ∷ first_sets n (drop 64 m)

-- how many write sets put so many pairs
abbrev pub set_count : ℕ → ℕ
set_count keys = (keys + 63) / 64

-- the write sets that put a map's pairs
unfoldable pub write_sets_of : KeyMap → List (List KeyWrite)
write_sets_of m = first_sets (set_count (length m)) m

-- how many sectors their log takes: a head, the records, and a closed gate
abbrev pub copy_size : KeyMap → ℕ
copy_size m = 2 + span (write_sets_of m)

-- the sectors of these write sets' records, the first with this index and with this digest before it, their gates open
abbrev pub log_sectors : List (List KeyWrite) → ℕ → List ℕ → List (List ℕ)
log_sectors [] index before = []
log_sectors (writes ∷ lists) index before =
    (open_gate ∷ record_body before index writes) ++ log_sectors lists (index + 1) (record_digest before index writes)

-- those of a log's records
abbrev pub sectors_of_records : List (List KeyWrite) → List (List ℕ)
sectors_of_records lists = log_sectors lists 0 first_digest

-- those of the record with this body, its gate open
abbrev pub open_record : List ℕ → List (List ℕ)
open_record body = open_gate ∷ sectors_in (length body / 512) body

-- reads from this sector on give these sectors
abbrev pub ReadsFrom : (ℕ → List ℕ → Type 0) → ℕ → List (List ℕ) → Type 0
ReadsFrom may_read at sectors = (k : ℕ) (s : List ℕ) → k < length sectors → may_read (at + k) s
    → s ≡ get_or sectors k []

-- a device of that size has room for the log of a map, and a buffer of that capacity for the body of any record
pub record HasRoomToCopy (size : ℕ) (map : KeyMap) (capacity : ℕ) : Type 0 where
  pub room : copy_size map ≤ size
  pub fits : size < 2 ^ 64
  pub memory : 512 * body_bound value_max ≤ capacity

-- the next so many pairs of these are there, and within the model's bounds
pub record HasNext (count : ℕ) (pairs : KeyMap) : Type 0 where
  pub there : count ≤ length pairs
  pub in_bounds : IsInBounds pairs

-- these bytes are the body of the record of these writes, which has this digest
pub record IsBodyOf (before : List ℕ) (index : ℕ) (writes : List KeyWrite) (bytes digest : List ℕ) : Type 0 where
  pub body : bytes ≡ padded_body before index writes
  pub sectors : length bytes ≡ 512 * body_sectors writes
  pub digest_is : digest ≡ record_digest before index writes

-- reads give the records of these write sets, and a closed gate behind them
pub record ReadsRecords (may_read : ℕ → List ℕ → Type 0) (lists : List (List KeyWrite)) : Type 0 where
  pub records : ReadsFrom may_read 1 (sectors_of_records lists)
  pub behind : ReadsFrom may_read (1 + span lists) (closed_gate ∷ [])

-- a sector of zeros
unfoldable pub zero_sector : List ℕ
zero_sector = replicate 512 0

-- the first sector holds zeros
abbrev pub IsBlank : List (List ℕ) → Type 0
IsBlank image = slice_get image 0 ≡ Some zero_sector

-- a crash leaves zeros in the first sector: it is settled, and holds zeros
abbrev pub LeavesZeros : (List (List ℕ) → Type 0) → Type 0
LeavesZeros may_leave = LeavesNoMore IsBlank may_leave

-- the image is the finished log of these write sets, or its first sector isn't the head of a log
abbrev pub IsCopyOrNoLog : List (List KeyWrite) → List (List ℕ) → Type 0
IsCopyOrNoLog lists c = IsLogImage current lists c ⊎ (slice_get c 0 ≡ Some (head_sector current) → ⊥)

-- The first sector is as a crash might have left it before, or the image is the finished log of these write sets but
-- for its first sector.
abbrev pub IsCopyStep : List (List KeyWrite) → (List (List ℕ) → Type 0) → List (List ℕ) → Type 0
IsCopyStep lists may_leave c =
    IsSameBefore 1 may_leave c ⊎ ((image : List (List ℕ)) × IsLogImage current lists image × IsSameElsewhere 0 image c)

-- so is an image that a crash since old leaves
abbrev pub LeavesSteps : {D : Type 0} → Ghosts D → List (List KeyWrite) → D → D → Type 0
LeavesSteps g lists old new = LeavesOnly g.moment g.left_since old new (IsCopyStep lists (g.may_leave old))

-- a crash since old leaves the finished log of the map's write sets, or no log
abbrev pub LeavesCopyOrNoLog : {D : Type 0} → Ghosts D → KeyMap → D → D → Type 0
LeavesCopyOrNoLog g map old new = LeavesOnly g.moment g.left_since old new (IsCopyOrNoLog (write_sets_of map))

-- a fault of a copy
abbrev pub IsCopyFault : LogFault → Type 0
IsCopyFault Full = Unit {0}
IsCopyFault Device = Unit {0}
IsCopyFault Memory = Unit {0}
IsCopyFault NotEmpty = Unit {0}
IsCopyFault other = ⊥

-- when each fault of a copy comes, and what it leaves of the device
pub record FailsToCopy {D : Type 0} (g : Ghosts D) (map : KeyMap) (old new : D) (result : Result ℕ LogFault) : Type 0
  where
    pub errors : IfErr result IsCopyFault
    pub full : IsErrOf result Full ↔ (g.size old < copy_size map)
    pub unchanged : IsErrOf result Full ⊎ IsErrOf result Memory → new ≡ old
    pub untouched : g.keeps_model → IsErrOf result NotEmpty → OnlyReads g old new

-- the first sector held zeros where the call succeeds, and something else where it reports so, in an image that the
-- device might have held
pub record FindsFirst {D T : Type 0} (g : Ghosts D) (device : D) (result : Result T LogFault) : Type 0 where
  pub empty : OnOk result (MightHold g device IsBlank)
  pub not_empty : IsErrOf result NotEmpty → MightHold g device (λ image. IsBlank image → ⊥)

-- as many records are reported of a copy as there are write sets, which give the map
pub record CopiesPairs (map : KeyMap) (result : Result ℕ LogFault) : Type 0 where
  pub number : IfOk result (λ n. n ≡ set_count (length map))
  pub lists : length (write_sets_of map) ≡ set_count (length map)
  pub gives : map_after [] (write_sets_of map) ≡ map

-- What a copy leaves: behind the log's sectors what was there, also where a crash comes. A crash at any moment leaves
-- the first sector as it might have left it before, or the finished log but for that sector; where it was settled and
-- held zeros, the finished log, or no log.
pub record LeavesCopying {D : Type 0} (g : Ghosts D) (map : KeyMap) (old new : D) : Type 0 where
  pub alone : OnlyWrites g 0 (copy_size map) old new
  pub steps : LeavesSteps g (write_sets_of map) old new
  pub any_moment : LeavesZeros (g.may_leave old) → LeavesCopyOrNoLog g map old new
