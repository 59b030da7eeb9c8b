use Rattle.snapshot.proofs.spans.below.Goals as goal
use Rattle.std.proofs.Common.{sym, subst, T, List}
use Rattle.std.specs.Cmp.Lexicographic.{slice_cmp}
use Rattle.std.specs.FinMap.Entries.{is_sorted}
use Rattle.std.specs.Ordering.{nat_cmp, is_lt}
use Rattle.model.specs.Map.{key_cmp, KeyWrite}
use Rattle.snapshot.proofs.Pieces.{all-below, sorted-where}

pub returns-in-None-clause-below : goal.returns-in-None-clause-below
returns-in-None-clause-below c = rw c.in-None.is (sym (all-below c.args.writes.now))

pub returns-in-Some-clause-sorted : goal.returns-in-Some-clause-sorted
returns-in-Some-clause-sorted c =
    subst (λ (l : List KeyWrite). T (is_sorted (slice_cmp nat_cmp) l)) (sym c.split_place.ensures.before)
    (sorted-where (λ q. is_lt (key_cmp q c.bytes.result.now)) c.args.writes.now c.requires)
