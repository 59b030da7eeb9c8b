-- The faults of commands.
use Rattle.commit_log.specs.declared.faults.LogFault.TheVariants as logs
use Rattle.scripts.specs.declared.faults.ScriptFault.TheVariants as scripts
use Rattle.std.specs.Fmt.{decimal}
use Rattle.std.specs.Prelude.{◌≡◌, ℕ, List, [], ◌∷◌, ◌++◌, Result, MatchResult, codes}
use Rattle.sector.specs.Counts.{Rose}
use Rattle.commit_log.specs.declared.faults.LogFault.{LogFault}
use Rattle.scripts.specs.declared.faults.ScriptFault.{ScriptFault}
use Rattle.commands.specs.declared.faults.Fault.{Fault}
use Rattle.commands.specs.declared.faults.Fault.TheVariants.{NotALog, OldFormat, NotEmpty, Damaged, LogFull, Device}
use Rattle.commands.specs.declared.faults.Fault.TheVariants.{File, Listen, Poll, Memory, BadLine, Crowded}

-- what a fault of the log is for a command
abbrev pub of_log : LogFault → Fault
of_log logs.NotALog = NotALog
of_log (logs.Damaged index) = Damaged index
of_log logs.Full = LogFull
of_log logs.Device = Device
of_log logs.Stopped = Device
of_log logs.Memory = Memory
of_log logs.OldFormat = OldFormat
of_log logs.NotEmpty = NotEmpty

-- what a fault of a script is for a command
abbrev pub of_script : ScriptFault → Fault
of_script (scripts.BadLine number) = BadLine number
of_script (scripts.Crowded number) = Crowded number
of_script scripts.File = File
of_script (scripts.Log fault) = of_log fault
of_script scripts.Memory = Memory

-- the device failed, or memory was refused
abbrev pub IsFromDevice : Fault → Type 0
IsFromDevice Device = Unit {0}
IsFromDevice Memory = Unit {0}
IsFromDevice other = ⊥

-- the output failed, or refused memory
abbrev pub IsFromOutput : Fault → Type 0
IsFromOutput File = Unit {0}
IsFromOutput Memory = Unit {0}
IsFromOutput other = ⊥

-- a file or the device failed, or memory was refused
abbrev pub IsFromOutside : Fault → Type 0
IsFromOutside Device = Unit {0}
IsFromOutside File = Unit {0}
IsFromOutside Memory = Unit {0}
IsFromOutside other = ⊥

-- the text of a fault
abbrev pub text_of : Fault → List ℕ
text_of NotALog = codes "ssikvd: not a log"
text_of OldFormat = codes "ssikvd: old format"
text_of NotEmpty = codes "ssikvd: not empty"
text_of (Damaged index) = codes "ssikvd: damaged record " ++ decimal index
text_of LogFull = codes "ssikvd: log full"
text_of Device = codes "ssikvd: device fault"
text_of File = codes "ssikvd: file fault"
text_of Listen = codes "ssikvd: listen fault"
text_of Poll = codes "ssikvd: poll fault"
text_of Memory = codes "ssikvd: out of memory"
text_of (BadLine number) = codes "line " ++ decimal number ++ codes ": bad line"
text_of (Crowded number) = codes "line " ++ decimal number ++ codes ": crowded"

-- the line of a fault
abbrev pub fault_line : Fault → List ℕ
fault_line fault = text_of fault ++ 10 ∷ []

-- the exit status of a fault
abbrev pub exit_status : Fault → ℕ
exit_status (BadLine number) = 2
exit_status (Crowded number) = 2
exit_status other = 3

-- `Device` is reported exactly where a call of the device failed
abbrev pub DeviceIs : {T : Type 0} → ℕ → ℕ → Result T Fault → Type 0
DeviceIs before now result =
    MatchResult result (λ _. now ≡ before) (λ e. (e ≡ Device → Rose before now) × ((e ≡ Device → ⊥) → now ≡ before))
