-- Which states of the machine an engine stands for.
use Rattle.std.specs.FinMap.Entries.{is_sorted}
use Rattle.std.specs.List.{AllZip}
use Rattle.std.specs.Ordering.{nat_cmp}
use Rattle.std.specs.Prelude.{◌≡◌, ℕ, ◌-◌, ◌^◌, ◌≤◌, T, Bool, true, false, IsTrue, List, length}
use Rattle.model.specs.History.{Record, map_at}
use Rattle.model.specs.Machine.{State, Running, IsReached}
use Rattle.model.specs.Map.{KeyMap}
use Rattle.sector.specs.declared.device.Sectors.{Ghosts}
use Rattle.commit_log.specs.LogState.{log_device, is_log_stopped, used_sectors, sector_count}
use Rattle.snapshot.specs.Made.{HasMade}
use Rattle.snapshot.specs.View.{View}
use Rattle.pivot_check.specs.FewKept.{KeepsLittle}
use Rattle.pivot_check.specs.Kept.{Facts, IsInReach}
use Rattle.engine.specs.Begins.{AreGathered}
use Rattle.engine.specs.HistoryValue.{HistoryStandsFor}
use Rattle.engine.specs.Recovery.{IsStored, IsInDoubt, committed_map}
use Rattle.engine.specs.declared.engine.Engine.{Engine}

-- an open transaction of the engine is one of the machine: it sees the map at its begin, and has made the same requests
pub record IsRunning (facts : Facts) (active : ℕ
    → Bool) (base : KeyMap) (history : List Record) (t : View) (r : Running) : Type 0 where
  pub begin : t.begin ≡ r.begin
  pub made : HasMade t (map_at base history r.begin) r.requests
  pub in_reach : IsInReach facts t
  pub is_active : IsTrue (active r.begin)

-- the open transactions by session, one by one
abbrev pub AreRunning : Facts → (ℕ → Bool) → KeyMap → List Record → List (ℕ × View) → List (ℕ × Running) → Type 0
AreRunning facts active base history es rs =
    AllZip (λ e r. (e.0 ≡ r.0) × IsRunning facts active base history e.1 r.1) es rs

-- the engine has the machine's state: its log, its history and its open transactions are those of the state
pub record Represents {D : Type 0} {g : Ghosts D} (e : Engine D g) (m : State) : Type 0 where
  pub reached : IsReached m
  pub stopped : m.stopped ≡ is_log_stopped e.log
  pub used : m.used ≡ used_sectors e.log
  pub count : m.count ≡ sector_count e.log
  -- where the device has not failed and keeps its model, the log has what has committed
  pub stored : g.keeps_model → is_log_stopped e.log ≡ false → IsStored e.log (committed_map m)
  -- where it has failed, the writes of the COMMIT in which it did may be there too
  pub doubt : g.keeps_model → is_log_stopped e.log ≡ true → IsInDoubt (committed_map m) (g.may_leave (log_device e.log))
  -- the numbers with which open transactions began are among the active ones
  pub active : ℕ → Bool
  pub history : HistoryStandsFor e.history active m.base m.history
  pub kept : e.history.committed.facts.oldest ≤ length m.history
  pub few : length m.history ≤ 2 ^ 63 - 1
  pub running : AreRunning e.history.committed.facts active m.base m.history e.running.entries m.running
  pub sorted : T (is_sorted nat_cmp m.running)
  pub few_open : length e.running.entries ≤ 64
  pub gathered : AreGathered e.begins e.running.entries

-- it stands for the state where it also keeps little
pub record StandsFor {D : Type 0} {g : Ghosts D} (e : Engine D g) (m : State) : Type 0 where
  pub state : Represents e m
  pub open state use *
  -- few postings are kept of each key that was written
  pub little : KeepsLittle e.history.committed
