-- What a lent write says.
use Rattle.std.specs.Prelude.{ℕ, List, Option, None, Some, ⊤}
use Rattle.model.specs.Key.{IsValue}
use Rattle.write_buffer.specs.declared.written.Written.{Written}
use Rattle.write_buffer.specs.declared.written.Written.TheVariants.{NotWritten, Gone, Value}

abbrev pub written_lent : Written → Option (Option (List ℕ))
written_lent NotWritten = None
written_lent Gone = Some None
written_lent (Value r) = Some (Some r.now)

-- its value has no more bytes than a value may have
abbrev pub IsShortWritten : Written → Type 0
IsShortWritten (Value r) = IsValue r.now
IsShortWritten other = ⊤
