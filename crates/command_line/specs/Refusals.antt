-- Why a command line asks for no command.
use Rattle.std.specs.Prelude.{◌≢◌}
use Rattle.clap.specs.declared.error.kind.ErrorKind.{ErrorKind}
use Rattle.clap.specs.declared.error.kind.ErrorKind.TheVariants.{OutOfMemory, DisplayHelp, DisplayVersion}
use Rattle.command_line.specs.declared.refusals.Refusal.{Refusal}
use Rattle.command_line.specs.declared.refusals.Refusal.TheVariants.{Help, Refused, Memory}

-- what an error of the parser of this kind is to the caller: its text may be refused memory
abbrev pub IsRefusalOf : ErrorKind → Refusal → Type 0
IsRefusalOf DisplayHelp (Help text) = Unit {0}
IsRefusalOf DisplayHelp (Refused text) = ⊥
IsRefusalOf DisplayVersion (Help text) = Unit {0}
IsRefusalOf DisplayVersion (Refused text) = ⊥
IsRefusalOf kind (Help text) = ⊥
IsRefusalOf kind (Refused text) = kind ≢ OutOfMemory
IsRefusalOf kind Memory = Unit {0}
