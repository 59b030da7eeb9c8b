use Rattle.latest_writes.proofs.latest.put_all.Given as goal
use Rattle.std.proofs.Common.{◌≡◌, [], length}
use Rattle.std.specs.Prelude.{reverse}
use Rattle.model.specs.Map.{after_writes}

-- what is left makes of the map so far what all make
abbrev pub invariant-loop-entry : goal.invariant-loop-entry
invariant-loop-entry l = after_writes l.map (reverse l.rest.items) ≡ after_writes [] (reverse l.fn.rest.items)

abbrev pub decreases-loop-entry : goal.decreases-loop-entry
decreases-loop-entry l = length l.rest.items
