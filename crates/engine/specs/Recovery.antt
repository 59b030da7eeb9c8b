-- What a crash leaves of the store.
use Rattle.std.specs.Prelude.{◌≡◌, ◌⊎◌, ℕ, true, false, List, [], length, Result, IsErrOf}
use Rattle.model.specs.History.{map_at}
use Rattle.model.specs.Machine.{State}
use Rattle.model.specs.Map.{KeyMap, KeyWrite, after_writes}
use Rattle.sector.specs.SectorModel.{LeavesOnly}
use Rattle.sector.specs.declared.device.Sectors.{Ghosts}
use Rattle.commit_log.specs.Format.{current}
use Rattle.commit_log.specs.LogImage.{IsLogImage}
use Rattle.commit_log.specs.LogState.{StandsFor as LogStandsFor, log_device}
use Rattle.commit_log.specs.Recovery.{map_after}
use Rattle.commit_log.specs.declared.faults.AppendFault.{AppendFault}
use Rattle.commit_log.specs.declared.faults.AppendFault.TheVariants.{Device, Memory}
use Rattle.commit_log.specs.declared.log.Log.{Log}
use Rattle.engine.specs.Changes.{IsLogStopped}

-- the image is that of a log whose write sets make this map
abbrev pub HoldsMap : List (List ℕ) → KeyMap → Type 0
HoldsMap image map = (lists : List (List KeyWrite)) × IsLogImage current lists image × (map_after [] lists ≡ map)

-- the map with all that has committed
abbrev pub committed_map : State → KeyMap
committed_map m = map_at m.base m.history (length m.history)

-- the log has the write sets that make this map
pub record IsStored {D : Type 0} {g : Ghosts D} (log : Log D g) (map : KeyMap) : Type 0 where
  pub lists : List (List KeyWrite)
  pub stands : LogStandsFor log lists
  pub makes : map_after [] lists ≡ map

-- so it is of whatever map the log has
abbrev pub WhereStored : {D : Type 0} {g : Ghosts D} → Log D g → (KeyMap → Type 0) → Type 0
WhereStored log P = (map : KeyMap) → IsStored log map → P map

-- a crash at any moment of an append leaves the map from before it, or that with the writes
abbrev pub SurvivesAppend : {D : Type 0} {g : Ghosts D} → Log D g → Log D g → List KeyWrite → Type 0
SurvivesAppend {g = g} old new ws =
    WhereStored old (λ map. LeavesOnly g.moment g.left_since (log_device old) (log_device new) (λ c. HoldsMap c map
    ⊎ HoldsMap c (after_writes map ws)))

-- each image holds the map, or the map with the writes of one COMMIT, the same for all
pub record IsInDoubt (map : KeyMap) (may_leave : List (List ℕ) → Type 0) : Type 0 where
  pub in_doubt : List KeyWrite
  pub holds : (c : List (List ℕ)) → may_leave c → HoldsMap c map ⊎ HoldsMap c (after_writes map in_doubt)

-- an append on which the device failed leaves that of the log's map
abbrev pub LeavesInDoubt : {D : Type 0} {g : Ghosts D} → Log D g → Log D g → Type 0
LeavesInDoubt {g = g} old new = WhereStored old (λ map. IsInDoubt map (g.may_leave (log_device new)))

-- what each fault of an append leaves
pub record FailsToAppend {D : Type 0} {g : Ghosts D} (old new : Log D g) (ws : List KeyWrite)
    (result : Result (Unit {0}) AppendFault) : Type 0 where
  pub unchanged : IsErrOf result Memory → new ≡ old
  pub stopped : IsErrOf result Device → IsLogStopped old new ws
  pub left : IsErrOf result Device → g.keeps_model → LeavesInDoubt old new

-- What a crash leaves: the map that is committed and, once the store is stopped, that or the one with the writes of one
-- COMMIT more. Which COMMIT that is, the clause `crash` of `Engine::commit` says.
pub record LeavesCommitted (m : State) (may_leave : List (List ℕ) → Type 0) : Type 0 where
  pub running : m.stopped ≡ false → (c : List (List ℕ)) → may_leave c → HoldsMap c (committed_map m)
  pub stopped : m.stopped ≡ true → IsInDoubt (committed_map m) may_leave
