-- What an append does to a log.
use Rattle.commit_log.specs.declared.faults.AppendFault.TheVariants as append
use Rattle.std.specs.Prelude.{◌≡◌, ◌≤◌, ◌+◌, ◌∷◌, ◌++◌, ℕ, List, [], Result, OnOk, true, false}
use Rattle.model.specs.Map.{KeyWrite}
use Rattle.sector.specs.Counts.{Rose, Stayed}
use Rattle.sector.specs.declared.device.Sectors.{Ghosts}
use Rattle.commit_log.specs.LogState.{AppendLeaves, AppendLeft, HasSameRecords, LacksRoom, OfItsLists, OnlyAppends}
use Rattle.commit_log.specs.LogState.{StandsFor, failure_count, is_log_stopped, record_count, sector_count}
use Rattle.commit_log.specs.LogState.{sync_count, used_sectors}
use Rattle.commit_log.specs.RecordFormat.{body_sectors}
use Rattle.commit_log.specs.declared.faults.AppendFault.{AppendFault}
use Rattle.commit_log.specs.declared.faults.LogFault.{LogFault}
use Rattle.commit_log.specs.declared.faults.LogFault.TheVariants.{Device, Full, Memory, Stopped}
use Rattle.commit_log.specs.declared.log.Log.{Log}

module _ {D : Type 0} {g : Ghosts D} (old new : Log D g) where
  -- a record of these writes was added under this index, the next one, with two syncs at most, and no call of the
  -- device failed
  pub record IsAdded (writes : List KeyWrite) (index : ℕ) : Type 0 where
    pub index_is : index ≡ record_count old
    pub records : record_count new ≡ record_count old + 1
    pub used : used_sectors new ≡ used_sectors old + (body_sectors writes + 1)
    pub size : sector_count new ≡ sector_count old
    pub running : is_log_stopped new ≡ false
    pub failures : Stayed (failure_count old) (failure_count new)
    pub syncs : sync_count new ≤ sync_count old + 2

  -- a call of the device failed, after two syncs at most: the log has the records that it had, and is stopped
  pub record IsStoppedBy : Type 0 where
    pub failures : Rose (failure_count old) (failure_count new)
    pub syncs : sync_count new ≤ sync_count old + 2
    pub stopped : is_log_stopped new ≡ true
    pub records : HasSameRecords old new
    pub size : sector_count new ≡ sector_count old

  -- what each fault leaves of a log that ran and had room
  abbrev pub FailsInRoom : AppendFault → Type 0
  FailsInRoom append.Device = IsStoppedBy
  FailsInRoom append.Memory = new ≡ old

  -- what each fault leaves of any log, and when it comes
  abbrev pub Fails : List KeyWrite → LogFault → Type 0
  Fails writes Stopped = (is_log_stopped old ≡ true) × (new ≡ old)
  Fails writes Full = (is_log_stopped old ≡ false) × LacksRoom old writes × (new ≡ old)
  Fails writes Memory = new ≡ old
  Fails writes Device = IsStoppedBy
  Fails writes other = ⊥

  -- Of a log that stood for some write sets: it stands for them and these writes at `Ok`, where reads give them and a
  -- crash leaves them; a crash at any moment of the call, and one behind it, leaves the write sets with these writes or
  -- without; and no sector is written but those of the record and the closed gate behind it.
  pub record KeepsLists {R E : Type 0} (writes : List KeyWrite) (result : Result R E) : Type 0 where
    pub added : OfItsLists old (λ lists. OnOk result (StandsFor new (lists ++ writes ∷ [])))
    pub any_moment : AppendLeaves old new writes
    pub left : AppendLeft old new writes
    pub alone : OnlyAppends old new writes
