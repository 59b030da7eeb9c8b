-- How opening a log ends, by what the device held.
use Rattle.std.specs.Prelude.{◌≡◌, ◌⊎◌, ℕ, List, [], false, length, Result, MatchResult, IsErrAnd, IfErr}
use Rattle.model.specs.Map.{KeyMap, KeyWrite}
use Rattle.sector.specs.Counts.{Stayed}
use Rattle.sector.specs.SectorModel.{LeavesNoMore}
use Rattle.sector.specs.declared.device.Sectors.{Ghosts}
use Rattle.commit_log.specs.Format.{current}
use Rattle.commit_log.specs.LogFaults.{IsDeviceOrMemory, IsOpenFault}
use Rattle.commit_log.specs.LogImage.{IsLogImage, IsDamaged, HasHead, IsNoLog}
use Rattle.commit_log.specs.LogState.{Holds, StandsFor, log_device, failure_count, is_log_stopped, sector_count}
use Rattle.commit_log.specs.Opening.{CanSettle}
use Rattle.commit_log.specs.Reading.{LeavesAsBefore, OfEachRead, ReadsImage, ReportsFailure}
use Rattle.commit_log.specs.Recovery.{map_after}
use Rattle.commit_log.specs.declared.faults.LogFault.{LogFault}
use Rattle.commit_log.specs.declared.faults.LogFault.TheVariants.{NotALog, Damaged, OldFormat}
use Rattle.commit_log.specs.declared.faults.Unopened.{Unopened}
use Rattle.commit_log.specs.declared.formats.LogFormat.{LogFormat}
use Rattle.commit_log.specs.declared.formats.LogFormat.TheVariants.{One}
use Rattle.commit_log.specs.declared.log.Log.{Log}

-- the log and the map are those of an image that the device might hold before, and now holds
abbrev pub OpensWhatWas : {D : Type 0} {g : Ghosts D} → D → Log D g → KeyMap → Type 0
OpensWhatWas {g = g} device log map =
    (lists : List (List KeyWrite)) × StandsFor log lists × (map ≡ map_after [] lists)
    × (image : List (List ℕ)) × IsLogImage current lists image
    × CanSettle (g.size device) (g.may_read device) (g.may_leave device) image × Holds g (log_device log) image

-- these are the log and the map of the write sets
abbrev pub IsLogOf : {D : Type 0} {g : Ghosts D} → List (List KeyWrite) → Log D g × KeyMap → Type 0
IsLogOf lists opened = StandsFor opened.0 lists × (opened.1 ≡ map_after [] lists)

-- a crash since the call began leaves what one before it might have left
abbrev pub OpeningLeavesAsBefore : {D R : Type 0} → Ghosts D → D → (R → D) → Result R (Unopened D) → Type 0
OpeningLeavesAsBefore g device device_in result =
    MatchResult result (λ r. LeavesAsBefore g device (device_in r)) (λ u. LeavesAsBefore g device u.device)

-- a log over this device runs, and no call of the device failed
pub record RunsOver {D : Type 0} {g : Ghosts D} (device : D) (log : Log D g) : Type 0 where
  pub size : sector_count log ≡ g.size device
  pub running : is_log_stopped log ≡ false
  pub failures : Stayed (g.failures device) (failure_count log)

-- opening was refused with a fault of an opening, which is `Device` exactly where a call of the device failed
pub record OpeningIsRefused {D : Type 0} (g : Ghosts D) (device : D) (unopened : Unopened D) : Type 0 where
  pub size : g.size unopened.device ≡ g.size device
  pub fault : IsOpenFault unopened.fault
  pub cause : ReportsFailure (g.failures device) (g.failures unopened.device) unopened.fault

-- of a device, how opening what is on it came out, and which fault each error reports
module _ {D R E : Type 0} (g : Ghosts D) (device : D) (result : Result R E) (fault_of : E → LogFault) where
  -- the fault is this one, the device's or memory's
  abbrev pub FailsWith : LogFault → Type 0
  FailsWith fault = IsErrAnd result (λ e. (fault_of e ≡ fault) ⊎ IsDeviceOrMemory (fault_of e))

  -- a log is opened as what it is
  abbrev pub FindsLog : (List (List KeyWrite) → R → Type 0) → Type 0
  FindsLog IsOf = (disk : List (List ℕ)) (lists : List (List KeyWrite)) → length disk ≡ g.size device
      → ReadsImage (g.may_read device) disk
      → IsLogImage current lists disk → MatchResult result (IsOf lists) (λ e. IsDeviceOrMemory (fault_of e))

  -- so is one that is damaged
  abbrev pub FindsDamage : Type 0
  FindsDamage = (disk : List (List ℕ)) (lists : List (List KeyWrite)) → length disk ≡ g.size device
      → ReadsImage (g.may_read device) disk
      → IsDamaged current lists disk → FailsWith (Damaged (length lists))

  -- and what is no log
  abbrev pub FindsNoLog : Type 0
  FindsNoLog = OfEachRead (g.size device) (g.may_read device) (λ disk. ((f : LogFormat) → IsNoLog f disk)
      → FailsWith NotALog)

  -- and what has the head of format 1
  abbrev pub FindsOldHead : Type 0
  FindsOldHead = OfEachRead (g.size device) (g.may_read device) (λ disk. HasHead One disk → FailsWith OldFormat)

  -- where each crash leaves some log, one is found
  abbrev pub FindsWhatIsLeft : Type 0
  FindsWhatIsLeft = LeavesNoMore (λ c. (lists : List (List KeyWrite)) × IsLogImage current lists c) (g.may_leave device)
      → IfErr result (λ e. IsDeviceOrMemory (fault_of e))

  -- opening finds what the device holds: each of these
  pub record Finds (IsOf : List (List KeyWrite) → R → Type 0) : Type 0 where
    pub found : FindsLog IsOf
    pub damaged : FindsDamage
    pub no_log : FindsNoLog
    pub older : FindsOldHead
    pub undamaged : FindsWhatIsLeft
