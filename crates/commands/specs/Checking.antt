-- What checking a data file does, call by call, over whatever opens files and takes lines.
use Rattle.std.specs.Prelude.{◌≡◌, ◌⊎◌, ℕ, List, length, Result, Ok, MatchResult, IsErrAnd, IfErr}
use Rattle.model.specs.Map.{KeyWrite}
use Rattle.sector.specs.declared.device.Sectors.{Ghosts}
use Rattle.commit_log.specs.Format.{current}
use Rattle.commit_log.specs.LogFaults.{IsDeviceOrMemory, IsOpenFault}
use Rattle.commit_log.specs.LogImage.{IsLogImage, IsDamaged, HasHead, IsNoLog}
use Rattle.commit_log.specs.Reading.{LeavesAsBefore, ReadsImage}
use Rattle.commit_log.specs.declared.faults.LogFault.{LogFault}
use Rattle.commit_log.specs.declared.faults.LogFault.TheVariants.{NotALog, Damaged, OldFormat}
use Rattle.commit_log.specs.declared.formats.LogFormat.{LogFormat}
use Rattle.commit_log.specs.declared.formats.LogFormat.TheVariants.{One}
use Rattle.commands.specs.Faults.{IsFromDevice, IsFromOutside}
use Rattle.commands.specs.LogCounts.{counts_of, counts_line, log_line}
use Rattle.commands.specs.Steps.{Calls, CallsLog, Step, Try}
use Rattle.commands.specs.declared.data.LogCounts.{LogCounts}
use Rattle.commands.specs.declared.faults.Fault.{Fault}
use Rattle.commands.specs.declared.faults.Fault.TheVariants.{File}
use Rattle.commands.specs.declared.system.DataFiles.{Ghosts as DataFiles}
use Rattle.commands.specs.declared.system.Lines.{Ghosts as Lines}

-- where the device keeps its model and holds an image of this kind, this is so
abbrev pub IfHolds : {D : Type 0} → Ghosts D → D → (List (List ℕ) → Type 0) → Type 0 → Type 0
IfHolds g device IsKind So = g.keeps_model → (disk : List (List ℕ)) → length disk ≡ g.size device
    → ReadsImage (g.may_read device) disk → IsKind disk → So

-- the same of an image that is of this kind for some write sets
abbrev pub IfHoldsSets : {D : Type 0} → Ghosts D → D → (LogFormat → List (List KeyWrite) → List (List ℕ) → Type 0)
    → (List (List KeyWrite) → Type 0) → Type 0
IfHoldsSets g device IsKind So =
    g.keeps_model → (disk : List (List ℕ)) (lists : List (List KeyWrite)) → length disk ≡ g.size device
    → ReadsImage (g.may_read device) disk
    → IsKind current lists disk → So lists

-- the line of a log of these write sets was printed, or something outside failed
abbrev pub PrintsLog : {O : Type 0} → Lines O → List (List KeyWrite) → ℕ → O → Result (Unit {0}) Fault → O → Type 0
PrintsLog out lists count old result new =
    MatchResult result (λ done. out.writes old (log_line lists count) (Ok done) new) IsFromOutside

-- nothing was printed, for this fault, or one of the device or of memory
abbrev pub IsRefused : {O : Type 0} → Fault → Result (Unit {0}) Fault → O → O → Type 0
IsRefused why result old new = IsErrAnd result (λ fault. ((fault ≡ why) ⊎ IsFromDevice fault) × (new ≡ old))

-- What counting the log of a device came to, by what the device holds. During it a crash leaves what one before it
-- could have left.
pub record Counting {D : Type 0} (g : Ghosts D) (device : D) (result : Result LogCounts LogFault) (after : D) : Type 0
  where
    pub found : IfHoldsSets g device IsLogImage
        (λ lists. MatchResult result (λ counts. counts ≡ counts_of lists (g.size device)) IsDeviceOrMemory)
    pub damaged : IfHoldsSets g device IsDamaged
        (λ lists. IsErrAnd result (λ fault. (fault ≡ Damaged (length lists)) ⊎ IsDeviceOrMemory fault))
    pub no_log : IfHolds g device (λ disk. (f : LogFormat)
        → IsNoLog f disk) (IsErrAnd result (λ fault. (fault ≡ NotALog) ⊎ IsDeviceOrMemory fault))
    pub older : IfHolds g device (HasHead One) (IsErrAnd result (λ fault. (fault ≡ OldFormat) ⊎ IsDeviceOrMemory fault))
    pub faults : IfErr result IsOpenFault
    pub during : g.keeps_model → LeavesAsBefore g device after

-- Counting the log of a device, and printing the line of its counts.
abbrev pub Checks : {D O : Type 0} → Ghosts D → Lines O → D → O → Step (Unit {0}) (D × O)
Checks g out device old =
    Try (CallsLog (Counting g device)) (λ after. (after, old)) λ counts after result new.
    Calls File (out.writes old (counts_line counts)) result new.1 × (new.0 ≡ after)

-- Checking a data file: it is opened to be checked, counted, its line printed, and it is closed. Nothing else is
-- called.
abbrev pub Checking : {F D O : Type 0} → Ghosts D → DataFiles F D → Lines O → List ℕ → F → O
    → Step (Unit {0}) (F × O)
Checking {D = D} g files out name old old_out =
    Try (Calls File (files.checks old name)) (λ opened. (opened, old_out)) λ device opened result new.
    (after : D) × Checks g out device old_out result (after, new.1) × files.closes opened after new.0
