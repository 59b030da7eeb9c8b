-- How a command line ends, and what is reported of it, over whatever takes lines.
use Rattle.command_line.specs.declared.refusals.Refusal.TheVariants as refusals
use Rattle.std.specs.Prelude.{◌≡◌, ◌⊎◌, List, ℕ, Bool, true, Result, Ok, Err, is_ok, string_bytes}
use Rattle.std.specs.declared.io.Error.{Error}
use Rattle.command_line.specs.declared.refusals.Refusal.{Refusal}
use Rattle.commands.specs.Faults.{fault_line, exit_status}
use Rattle.commands.specs.declared.endings.Ending.{Ending}
use Rattle.commands.specs.declared.endings.Ending.TheVariants.{Done, Help, Refused, Failed}
use Rattle.commands.specs.declared.endings.Reported.{Reported}
use Rattle.commands.specs.declared.faults.Fault.{Fault}
use Rattle.commands.specs.declared.faults.Fault.TheVariants.{File, Memory}

-- how a command line ends that was refused
abbrev pub of_refusal : Refusal → Ending
of_refusal (refusals.Help text) = Help text
of_refusal (refusals.Refused text) = Refused text
of_refusal refusals.Memory = Failed Memory

-- how a command's outcome ends it
abbrev pub of_outcome : {T : Type 0} → Result T Fault → Ending
of_outcome (Ok done) = Done
of_outcome (Err fault) = Failed fault

-- a text was taken, in one call, and this says whether it could be written
abbrev pub ReportsText : {E : Type 0} → (E → List ℕ → Result (Unit {0}) Error → E → Type 0) → List ℕ → E → Bool → E
    → Type 0
ReportsText reports text err is_written err' =
    (outcome : Result (Unit {0}) Error) × reports err text outcome err' × (is_written ≡ is_ok outcome)

-- this fault is reported: its status, and its line
abbrev pub ReportsFault : {E : Type 0} → (E → List ℕ → Result (Unit {0}) Error → E → Type 0) → Fault → E → Reported → E
    → Type 0
ReportsFault reports fault err reported err' =
    (reported.status ≡ exit_status fault) × ReportsText reports (fault_line fault) err reported.is_written err'

-- help was asked for: it was taken by the output, or couldn't be written and that is reported as a fault of a file
abbrev pub ReportsHelp : {O E : Type 0} → (O → List ℕ → Result (Unit {0}) Error → O → Type 0)
    → (E → List ℕ → Result (Unit {0}) Error → E → Type 0)
    → List ℕ → O → E → Reported → O → E → Type 0
ReportsHelp writes reports text out err reported out' err' =
    ((done : Unit {0}) × writes out text (Ok done) out' × (reported.status ≡ 0) × (reported.is_written ≡ true)
    × (err' ≡ err))
    ⊎ ((error : Error) × writes out text (Err error) out' × ReportsFault reports File err reported err')

-- what is reported of an ending: the calls of the output and of the error output, and the status
abbrev pub ReportsEnding : {O E : Type 0} → (O → List ℕ → Result (Unit {0}) Error → O → Type 0)
    → (E → List ℕ → Result (Unit {0}) Error → E → Type 0)
    → Ending → O → E → Reported → O → E → Type 0
ReportsEnding writes reports Done out err reported out' err' =
    (reported.status ≡ 0) × (reported.is_written ≡ true) × (out' ≡ out) × (err' ≡ err)
ReportsEnding writes reports (Help text) out err reported out' err' =
    ReportsHelp writes reports (string_bytes text) out err reported out' err'
ReportsEnding writes reports (Refused text) out err reported out' err' =
    (reported.status ≡ 1) × (out' ≡ out) × ReportsText reports (string_bytes text) err reported.is_written err'
ReportsEnding writes reports (Failed fault) out err reported out' err' = (out' ≡ out)
    × ReportsFault reports fault err reported err'
