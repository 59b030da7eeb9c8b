-- What the engine's private calls change.
use Rattle.std.specs.BTreeMap.{is_at}
use Rattle.std.specs.Map.{lookup, remove_entry}
use Rattle.std.specs.Ordering.{nat_cmp}
use Rattle.std.specs.Prelude.{◌≡◌, ℕ, ◌+◌, ◌<◌, ◌≤◌, true, false, List, [], ◌∷◌, length, Option, None}
use Rattle.model.specs.Machine.{body_sectors}
use Rattle.model.specs.Map.{KeyWrite}
use Rattle.sector.specs.Counts.{Rose, Stayed}
use Rattle.sector.specs.declared.device.Sectors.{Ghosts}
use Rattle.commit_log.specs.LogState.{is_log_stopped, used_sectors, sector_count, failure_count, record_count}
use Rattle.commit_log.specs.LogState.{log_device, sync_count}
use Rattle.commit_log.specs.declared.log.Log.{Log}
use Rattle.snapshot.specs.View.{View}
use Rattle.engine.specs.declared.engine.Engine.{Engine}

-- the session's open transaction
abbrev pub entry_of : {D : Type 0} {g : Ghosts D} → ℕ → Engine D g → Option View
entry_of s e = lookup (is_at (nat_cmp s)) e.running.entries

-- only open transactions differ
pub record IsSameStore {D : Type 0} {g : Ghosts D} (e e' : Engine D g) : Type 0 where
  pub log : e'.log ≡ e.log
  pub history : e'.history ≡ e.history

-- the session's transaction has ended, and nothing else has changed
pub record EndsTransaction {D : Type 0} {g : Ghosts D} (e e' : Engine D g) (s : ℕ) : Type 0 where
  pub store : IsSameStore e e'
  pub entries : e'.running.entries ≡ remove_entry (is_at (nat_cmp s)) e.running.entries
  pub fewer : length e'.running.entries ≤ length e.running.entries
  pub forgets : e'.begins ≡ None

-- how many sectors a commit of these writes takes in the log: none where nothing was written
abbrev pub sectors_taken : List KeyWrite → ℕ
sectors_taken [] = 0
sectors_taken (w ∷ ws) = body_sectors (w ∷ ws) + 1

-- and how many records: one, or none where nothing was written
abbrev pub records_added : List KeyWrite → ℕ
records_added [] = 0
records_added (w ∷ ws) = 1

abbrev pub WritesSomething : List KeyWrite → Type 0
WritesSomething ws = ws ≡ [] → ⊥

-- there is room in the log for what was written
abbrev pub HasLogRoom : ℕ → ℕ → List KeyWrite → Type 0
HasLogRoom used count ws = WritesSomething ws → used + body_sectors ws < count

-- what was written, if anything was, stands in the log
pub record IsLogged {D : Type 0} {g : Ghosts D} (old new : Log D g) (ws : List KeyWrite) : Type 0 where
  pub running : is_log_stopped new ≡ false
  pub used : used_sectors new ≡ used_sectors old + sectors_taken ws
  pub records : record_count new ≡ record_count old + records_added ws
  pub size : sector_count new ≡ sector_count old
  pub syncs : sync_count new ≤ sync_count old + 2
  pub no_fault : WritesSomething ws → Stayed (failure_count old) (failure_count new)
  pub untouched : ws ≡ [] → new ≡ old

-- the device failed, and the log has stopped
pub record IsLogStopped {D : Type 0} {g : Ghosts D} (old new : Log D g) (ws : List KeyWrite) : Type 0 where
  pub written : WritesSomething ws
  pub stopped : is_log_stopped new ≡ true
  pub used : used_sectors new ≡ used_sectors old
  pub records : record_count new ≡ record_count old
  pub size : sector_count new ≡ sector_count old
  pub syncs : sync_count new ≤ sync_count old + 2
  pub fault : Rose (failure_count old) (failure_count new)

-- One record was added to the log at most, and none where it uses as many sectors as before. The device was asked for
-- two syncs at most, and for none where no record was added and no call failed.
pub record AddsOneAtMost {D : Type 0} {g : Ghosts D} (old new : Log D g) : Type 0 where
  pub kept : record_count old ≤ record_count new
  pub one : record_count new ≤ record_count old + 1
  pub same : used_sectors new ≡ used_sectors old → record_count new ≡ record_count old
  pub syncs : sync_count new ≤ sync_count old + 2
  pub quiet : record_count new ≡ record_count old → Stayed (failure_count old) (failure_count new)
      → sync_count new ≡ sync_count old

-- What a request does to the log: nothing to one that has stopped, and else it adds one record at most. No failure is
-- forgotten.
pub record UsesLogOnce {D : Type 0} {g : Ghosts D} (old new : Log D g) : Type 0 where
  pub still : is_log_stopped old ≡ true → log_device new ≡ log_device old
  pub failures : failure_count old ≤ failure_count new
  pub records : AddsOneAtMost old new
