-- What a command of the parser is made from.
use Rattle.std.specs.Prelude.{◌≡◌, Result, IfOk, false}
use Rattle.std.specs.declared.alloc.AllocError.{AllocError}
use Rattle.clap.specs.Simple.{App, app_of}
use Rattle.clap.specs.declared.builder.command.Command.{Command}
use Rattle.clap.specs.declared.builder.command.Command.TheViews.{out-Command}

-- a command that takes what the usage says, and has no option that those below it take too
pub record IsOf (usage : App) (command : Command) : Type 0 where
  pub takes : app_of command ≡ usage
  pub local : (out-Command command).has_globals ≡ false

-- the same, unless memory was refused
abbrev pub Makes : App → Result Command AllocError → Type 0
Makes usage made = IfOk made (IsOf usage)
