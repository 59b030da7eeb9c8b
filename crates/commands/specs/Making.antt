-- What making a data file does, call by call, over whatever makes files.
use Rattle.std.specs.Prelude.{◌≡◌, ℕ, List, [], Result, OnOk, IfErr}
use Rattle.sector.specs.declared.device.Sectors.{Ghosts}
use Rattle.commit_log.specs.LogState.{HoldsLog}
use Rattle.commands.specs.Faults.{DeviceIs}
use Rattle.commands.specs.Steps.{Calls, Step, Try}
use Rattle.commands.specs.declared.faults.Fault.{Fault}
use Rattle.commands.specs.declared.faults.Fault.TheVariants.{File, Device}
use Rattle.commands.specs.declared.system.DataFiles.{Ghosts as DataFiles}

-- what formatting a device of two sectors or more came to: it holds an empty log, or a call of it failed
pub record Formats {D : Type 0} (g : Ghosts D) (device : D) (result : Result (Unit {0}) Fault) (after : D) : Type 0
  where
    pub fault : DeviceIs (g.failures device) (g.failures after) result
    pub alone : IfErr result (λ fault. fault ≡ Device)
    pub formatted : g.keeps_model → OnOk result (HoldsLog g after [])

-- Making a data file: one of this name and this number of sectors is made, formatted, and closed. Nothing else is
-- called.
abbrev pub Creating : {F D : Type 0} → Ghosts D → DataFiles F D → List ℕ → ℕ → F → Step (Unit {0}) F
Creating {D = D} g files name sectors old =
    Try (Calls File (files.makes old name sectors)) (λ made. made) λ device made result new.
    (formatted : D) × (g.size device ≡ sectors) × Formats g device result formatted × files.closes made formatted new
