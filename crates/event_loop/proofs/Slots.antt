-- The slots of the table of connections.
use Rattle.std.proofs.Common.{List, Option}
use Rattle.stream_driver.specs.declared.entries.Entry.{Entry}

-- a table of entries
abbrev pub Slots : Type 0 → Type 0
Slots T = List (Option (Entry T))
