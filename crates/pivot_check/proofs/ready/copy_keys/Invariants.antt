use Rattle.pivot_check.proofs.ready.copy_keys.Given as goal
use Rattle.std.proofs.Common.{◌≡◌, take}
use Rattle.pivot_check.specs.Kept.{keys_of}

-- the keys so far are those of the first writes
abbrev pub invariant-loop-write : goal.invariant-loop-write
invariant-loop-write l = l.keys.items ≡ keys_of (take l.write-index l.writes)
