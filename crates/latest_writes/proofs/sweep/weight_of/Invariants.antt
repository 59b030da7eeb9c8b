use Rattle.latest_writes.proofs.sweep.weight_of.Given as goal
use Rattle.std.proofs.Common.{◌≡◌, ◌-◌, ◌^◌, min, take}
use Rattle.latest_writes.specs.Buffered.{weight_of}

abbrev pub invariant-loop-entry : goal.invariant-loop-entry
invariant-loop-entry l = l.weight ≡ min (weight_of (take l.entry-index l.entries)) (2 ^ 64 - 1)
