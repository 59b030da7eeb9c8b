-- What opening finds.
use Rattle.std.specs.Prelude.{◌≡◌, ◌⊎◌, ◌<◌, ◌+◌, ℕ, List, [], length, drop, slice_get, Option, Some, MatchOption}
use Rattle.std.specs.Prelude.{Result, MatchResult, IfOk}
use Rattle.model.specs.Map.{KeyWrite}
use Rattle.sector.specs.declared.device.Sectors.{Ghosts}
use Rattle.commit_log.specs.Format.{current}
use Rattle.commit_log.specs.LogImage.{HoldsRecords, HoldsDamage, IsLogImage, IsDamaged, HasHead, HasNoRecord}
use Rattle.commit_log.specs.LogImage.{BeginsWith, IsNoLog, IsRecordAt, span, last_digest}
use Rattle.commit_log.specs.LogFaults.{IsDeviceOrMemory}
use Rattle.commit_log.specs.LogState.{Holds}
use Rattle.commit_log.specs.RecordFormat.{IsWriteSet, body_sectors, first_digest, record_digest}
use Rattle.commit_log.specs.Recovery.{map_after}
use Rattle.commit_log.specs.declared.faults.LogFault.{LogFault}
use Rattle.commit_log.specs.declared.faults.LogFault.TheVariants.{NotALog, Damaged, Device, Memory, OldFormat}
use Rattle.commit_log.specs.declared.formats.LogFormat.{LogFormat}
use Rattle.commit_log.specs.declared.formats.LogFormat.TheVariants.{One}
use Rattle.commit_log.specs.declared.read.Found.{Found}
use Rattle.commit_log.specs.declared.read.Record.{Record}

-- it reports the records of these write sets
pub record ReportsLists (lists : List (List KeyWrite)) (found : Found) : Type 0 where
  pub gate : found.gate ≡ 1 + span lists
  pub records : found.records ≡ length lists
  pub digest : found.digest.bytes ≡ last_digest lists 0 first_digest
  pub map : found.map ≡ map_after [] lists

-- it reports the records that these sectors hold
pub record IsFound (f : LogFormat) (rest : List (List ℕ)) (found : Found) : Type 0 where
  pub lists : List (List KeyWrite)
  pub holds : HoldsRecords f lists 0 first_digest rest
  pub reports : ReportsLists lists found

-- these sectors are damaged behind so many records
pub record IsDamagedAt (f : LogFormat) (rest : List (List ℕ)) (index : ℕ) : Type 0 where
  pub lists : List (List KeyWrite)
  pub count : length lists ≡ index
  pub holds : HoldsDamage f lists 0 first_digest rest

-- reading records fails by the device, out of memory, or where they are damaged
abbrev pub IsReadFault : LogFormat → List (List ℕ) → LogFault → Type 0
IsReadFault f rest (Damaged index) = IsDamagedAt f rest index
IsReadFault f rest Device = Unit {0}
IsReadFault f rest Memory = Unit {0}
IsReadFault f rest other = ⊥

-- the image is damaged behind so many records
abbrev pub IsDamagedImage : LogFormat → List (List ℕ) → ℕ → Type 0
IsDamagedImage f image index = (lists : List (List KeyWrite)) × (length lists ≡ index) × IsDamaged f lists image

-- opening fails by the device, out of memory, or for what this image is
abbrev pub IsRefusal : List (List ℕ) → LogFault → Type 0
IsRefusal image NotALog = (f : LogFormat) → IsNoLog f image
IsRefusal image (Damaged index) = IsDamagedImage current image index
IsRefusal image Device = Unit {0}
IsRefusal image Memory = Unit {0}
IsRefusal image OldFormat = HasHead One image
IsRefusal image other = ⊥

-- a sync might have settled this image
pub record CanSettle (size : ℕ) (may_read : ℕ → List ℕ → Type 0) (may_leave : List (List ℕ)
    → Type 0) (image : List (List ℕ)) : Type 0 where
  pub size_is : length image ≡ size
  pub read : (i : ℕ) (s : List ℕ) → slice_get image i ≡ Some s → may_read i s
  pub left : may_leave image

-- a sync of the device might settle an image that has P
abbrev pub MightHold : {D : Type 0} → Ghosts D → D → (List (List ℕ) → Type 0) → Type 0
MightHold g device P = (image : List (List ℕ))
    × CanSettle (g.size device) (g.may_read device) (g.may_leave device) image × P image

-- this record stands from this place of the image on
abbrev pub IsRecordIn : LogFormat → ℕ → List ℕ → ℕ → List (List ℕ) → Record → Type 0
IsRecordIn f index before at image found = IsRecordAt f index before (drop at image) found.writes.items

-- no record does
abbrev pub HasNoRecordIn : LogFormat → ℕ → List ℕ → ℕ → List (List ℕ) → Type 0
HasNoRecordIn f index before at image = HasNoRecord f index before (drop at image)

-- a record that was read from this place on, behind that digest: it ends before the last of so many sectors
pub record IsFitRecord (f : LogFormat) (index : ℕ) (before : List ℕ) (at count : ℕ) (found : Record) : Type 0 where
  pub sectors : at + found.sectors < count
  pub proper : IsWriteSet f found.writes.items
  pub digest : found.digest.bytes ≡ record_digest before index found.writes.items

-- it stands there in the image, in as many sectors as it says
pub record IsRecordFound (f : LogFormat) (index : ℕ) (before : List ℕ) (at : ℕ) (image : List (List ℕ))
    (found : Record) : Type 0 where
  pub stands : IsRecordIn f index before at image found
  pub counted : found.sectors ≡ body_sectors found.writes.items

-- what reading a record came to, where the image is this one
abbrev pub ReadsRecord : LogFormat → ℕ → List ℕ → ℕ → Result (Option Record) LogFault → List (List ℕ) → Type 0
ReadsRecord f index before at result image =
    IfOk result (λ o. MatchOption o (HasNoRecordIn f index before at image) (IsRecordFound f index before at image))

-- the device holds this image, which begins with this head, or is no log
abbrev pub HoldsHead : {D : Type 0} → Ghosts D → D → Option LogFormat → List (List ℕ) → Type 0
HoldsHead g device head image = Holds g device image × BeginsWith head image

-- what reading records came to, where the image is this one
abbrev pub ReadingGives : LogFormat → Result Found LogFault → List (List ℕ) → Type 0
ReadingGives f result image = MatchResult result (IsFound f (drop 1 image)) (IsReadFault f (drop 1 image))

-- it reports on this image, which reads give now and is all that a crash may leave
pub record ReportsImage {D : Type 0} (g : Ghosts D) (f : LogFormat) (device : D) (found : Found)
    (image : List (List ℕ)) : Type 0 where
  pub lists : List (List KeyWrite)
  pub holds : IsLogImage f lists image
  pub reports : ReportsLists lists found
  pub settled : Holds g device image

-- what reading a log came to: it reports on one image that the device might have held, but for the faults of the device
-- and of memory
abbrev pub ReadsLog : {D : Type 0} → Ghosts D → D → D → Result Found LogFault → Type 0
ReadsLog g old new result = MatchResult result (λ found. MightHold g old (ReportsImage g current new found))
    (λ e. IsDeviceOrMemory e ⊎ MightHold g old (λ image. IsRefusal image e))
