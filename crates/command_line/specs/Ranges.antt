-- Which numbers of sectors the commands work on.
use Rattle.std.specs.Prelude.{◌≤◌, IfSome}
use Rattle.command_line.specs.declared.invocation.Invocation.{Invocation}
use Rattle.command_line.specs.declared.invocation.Invocation.TheVariants.{Create, Play, Compact}

abbrev pub IsInRange : Invocation → Type 0
IsInRange (Create file n) = (2 ≤ n) × (n ≤ 4194304)
IsInRange (Compact from to sectors) = IfSome sectors (λ n. (2 ≤ n) × (n ≤ 4194304))
IsInRange (Play n) = (2 ≤ n) × (n ≤ 65536)
IsInRange other = Unit {0}
