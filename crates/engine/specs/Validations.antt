-- What the validation of a COMMIT has found.
use Rattle.model.specs.declared.refusals.Refusal.TheVariants as refusals
use Rattle.std.specs.Prelude.{◌≡◌, ℕ, ◌<◌, ◌-◌, ◌^◌, Bool, false, List, [], length, slice_index_or, Option, Some}
use Rattle.std.specs.Prelude.{None}
use Rattle.model.specs.Machine.{State, refuse, step, payload_size}
use Rattle.model.specs.Map.{KeyMap, KeyWrite}
use Rattle.model.specs.Operations.{Operation}
use Rattle.model.specs.Operations.Operation.{Commit}
use Rattle.model.specs.PrivateCopy.{writes}
use Rattle.model.specs.declared.refusals.Refusal.{Refusal}
use Rattle.sector.specs.declared.device.Sectors.{Ghosts}
use Rattle.commit_log.specs.LogState.{is_log_stopped, used_sectors, sector_count}
use Rattle.commit_log.specs.declared.log.Log.{Log}
use Rattle.snapshot.specs.Made.{HasMade}
use Rattle.snapshot.specs.View.{View}
use Rattle.pivot_check.specs.Kept.{IsInReach}
use Rattle.pivot_check.specs.StandsFor.{IsClear, IsCleared}
use Rattle.engine.specs.Changes.{entry_of, WritesSomething, HasLogRoom}
use Rattle.engine.specs.HistoryValue.{HistoryValue}
use Rattle.engine.specs.StandsFor.{StandsFor}
use Rattle.engine.specs.declared.engine.Engine.{Engine}
use Rattle.engine.specs.declared.validating.Validation.{Validation}
use Rattle.engine.specs.declared.validating.Validation.TheVariants.{Refused, Overwritten, Clear}

-- the machine ends the session's transaction by this refusal, whether or not the device fails
abbrev pub CommitIsRefused : {D : Type 0} {g : Ghosts D} → Engine D g → ℕ → Refusal → Type 0
CommitIsRefused e s refusal = (m : State) (failed : Bool) → StandsFor e m → step m s Commit failed ≡ refuse m s refusal

-- the session's transaction is open, the store runs, and there is a number for a commit
pub record IsToCheck {D : Type 0} {g : Ghosts D} (e : Engine D g) (s : ℕ) (t : View) : Type 0 where
  pub entry : entry_of s e ≡ Some t
  pub running : is_log_stopped e.log ≡ false
  pub numbers : e.history.committed.facts.last < 2 ^ 63 - 1

-- nothing refuses the commit, and the log has room for what was written
pub record IsToCommit {D : Type 0} {g : Ghosts D} (e : Engine D g) (s : ℕ) (t : View) : Type 0 where
  pub asked : IsToCheck e s t
  pub made : (m : KeyMap) (qs : List Operation) → HasMade t m qs → t.writes ≡ writes m qs
  pub clear : IsInReach e.history.committed.facts t → IsClear e.history.committed.facts t
  pub room : HasLogRoom (used_sectors e.log) (sector_count e.log) t.writes

-- how many bytes the payload of a record of what was written has, if anything was
abbrev pub IsPayload : List KeyWrite → Option ℕ → Type 0
IsPayload ws None = ws ≡ []
IsPayload ws (Some len) = WritesSomething ws × (len ≡ payload_size ws)

-- a log that runs, with room for the record of what was written, whose payload is that long
pub record CanAppend {D : Type 0} {g : Ghosts D} (log : Log D g) (ws : List KeyWrite) (payload : Option ℕ) : Type 0
  where
    pub running : is_log_stopped log ≡ false
    pub room : HasLogRoom (used_sectors log) (sector_count log) ws
    pub payload_is : IsPayload ws payload

-- what was found is what the machine does, over each state that the engine stands for
abbrev pub IsValidated : {D : Type 0} {g : Ghosts D} → Engine D g → ℕ → View → Validation → Type 0
IsValidated e s t (Refused refusal) = CommitIsRefused e s refusal
IsValidated e s t (Overwritten i) =
    (i < length t.writes) × ((d : KeyWrite)
    → CommitIsRefused e s (refusals.Overwritten (slice_index_or t.writes i d).0))
IsValidated e s t (Clear payload cleared) =
    IsToCommit e s t × IsPayload t.writes payload × IsCleared e.history.committed.facts t cleared

-- so it is in each engine with this log and these commits, for each session that runs the transaction
abbrev pub IsValidatedOver : {D : Type 0} {g : Ghosts D} → Log D g → HistoryValue → View → Validation → Type 0
IsValidatedOver {D = D} {g = g} log history t validation = (e : Engine D g) (s : ℕ) → e.log ≡ log → e.history ≡ history
    → entry_of s e ≡ Some t → IsValidated e s t validation

abbrev pub IsCheckedOver : {D : Type 0} {g : Ghosts D} → Log D g → HistoryValue → View → Validation → Type 0
IsCheckedOver {D = D} {g = g} log history t validation = (e : Engine D g) (s : ℕ) → e.log ≡ log → e.history ≡ history
    → IsToCheck e s t → IsValidated e s t validation
