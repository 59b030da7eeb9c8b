-- What calls that only read a device change.
use Rattle.std.specs.Prelude.{◌≡◌, ◌+◌, ◌*◌, ◌^◌, ◌<◌, ◌≤◌, ℕ, List, length, take, drop, Result, MatchResult, OnOk}
use Rattle.std.specs.Prelude.{slice_get, Some}
use Rattle.sector.specs.Counts.{IsCounted, Rose, Stayed}
use Rattle.sector.specs.SectorModel.{LeavesNoMore, LeavesOnly, ReadsNoMore}
use Rattle.sector.specs.declared.device.Sectors.{Ghosts}
use Rattle.commit_log.specs.declared.faults.LogFault.{LogFault}
use Rattle.commit_log.specs.declared.faults.LogFault.TheVariants.{Device}

-- this fault is `Device` exactly where a call of the device failed
abbrev pub ReportsFailure : ℕ → ℕ → LogFault → Type 0
ReportsFailure before now e = (e ≡ Device → Rose before now) × ((e ≡ Device → ⊥) → now ≡ before)

-- `Device` is reported exactly where a call of the device failed
abbrev pub FaultIs : {T : Type 0} → ℕ → ℕ → Result T LogFault → Type 0
FaultIs before now result = MatchResult result (λ _. now ≡ before) (ReportsFailure before now)

-- so it is of calls of the device, of which at `Ok` there was one at least
abbrev pub FaultIsCounted : {T : Type 0} → ℕ → ℕ → Result T LogFault → Type 0
FaultIsCounted before now result = MatchResult result (λ _. Stayed before now) (ReportsFailure before now)

module _ {D : Type 0} (g : Ghosts D) (old new : D) where
  -- calls of a device came out so: it has as many sectors as before, and the first that failed was the last
  abbrev pub CountsCalls : {A E : Type 0} → Result A E → Type 0
  CountsCalls result = (g.size new ≡ g.size old) × IsCounted result (g.failures old) (g.failures new)

  -- so did what calls the device, once at least where it succeeds
  abbrev pub CountsFaults : {A : Type 0} → Result A LogFault → Type 0
  CountsFaults result = (g.size new ≡ g.size old) × FaultIsCounted (g.failures old) (g.failures new) result

  -- so did what may call the device
  abbrev pub NotesFaults : {A : Type 0} → Result A LogFault → Type 0
  NotesFaults result = (g.size new ≡ g.size old) × FaultIs (g.failures old) (g.failures new) result

-- n sectors from this one on are within a device of that size, and fit behind these bytes
pub record CanRead (size at n : ℕ) (bytes : List ℕ) : Type 0 where
  pub room : at + n ≤ size
  pub fits : at + n < 2 ^ 64
  pub memory : length bytes + 512 * n < 2 ^ 63

-- a device of that size has so many sectors, and these are n at least
pub record CountsAtLeast (n size count : ℕ) : Type 0 where
  pub least : n ≤ count
  pub all : count ≡ size

-- so many bytes more stand behind those that stood there
pub record IsGrown (more : ℕ) (old new : List ℕ) : Type 0 where
  pub long : length new ≡ length old + more
  pub front : take (length old) new ≡ old

-- a read gives what this image holds
abbrev pub ReadsImage : (ℕ → List ℕ → Type 0) → List (List ℕ) → Type 0
ReadsImage may_read image = (i : ℕ) (s : List ℕ) → may_read i s → slice_get image i ≡ Some s

-- the n sectors from this one on were read to the end of a buffer
abbrev pub HasRead : {T : Type 0} → Result T LogFault → (ℕ → List ℕ → Type 0) → ℕ → ℕ → List ℕ → List ℕ → Type 0
HasRead result may_read at n old new = (image : List (List ℕ)) → ReadsImage may_read image
    → OnOk result ((k : ℕ) → k < n → slice_get image (at + k) ≡ Some (take 512 (drop (length old + 512 * k) new)))

-- P of each image of so many sectors as which reads give
abbrev pub OfEachRead : ℕ → (ℕ → List ℕ → Type 0) → (List (List ℕ) → Type 0) → Type 0
OfEachRead count may_read P = (image : List (List ℕ)) → length image ≡ count → ReadsImage may_read image → P image

-- a crash since old leaves what one at old might have left
abbrev pub LeavesAsBefore : {D : Type 0} → Ghosts D → D → D → Type 0
LeavesAsBefore g old new = LeavesOnly g.moment g.left_since old new (g.may_leave old)

-- reads give no more than before, and a crash leaves no more
pub record OnlyReads {D : Type 0} (g : Ghosts D) (old new : D) : Type 0 where
  pub reads : ReadsNoMore (g.may_read old) (g.may_read new)
  pub left : LeavesNoMore (g.may_leave old) (g.may_leave new)
  pub time : LeavesAsBefore g old new
