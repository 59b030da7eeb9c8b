use Rattle.pivot_check.proofs.by_start.places_of.Given as goal
use Rattle.std.proofs.Common.{◌≡◌}
use Rattle.arrayvec.specs.ArrayVec.{array_vec_len}
use Rattle.pivot_check.specs.Places.{places_upto}

abbrev pub invariant-loop-place : goal.invariant-loop-place
invariant-loop-place l = (l.places.items ≡ places_upto l.place) × (array_vec_len l.places ≡ l.place)
