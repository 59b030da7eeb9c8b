-- The faults of a script.
use Rattle.std.specs.Prelude.{⊤}
use Rattle.scripts.specs.declared.faults.ScriptFault.{ScriptFault}
use Rattle.scripts.specs.declared.faults.ScriptFault.TheVariants.{File, Log, Memory}

-- of a reader
abbrev pub IsFromReading : ScriptFault → Type 0
IsFromReading File = ⊤
IsFromReading Memory = ⊤
IsFromReading other = ⊥

-- of a log that is made and opened
abbrev pub IsOpening : ScriptFault → Type 0
IsOpening (Log fault) = ⊤
IsOpening Memory = ⊤
IsOpening other = ⊥
