use Rattle.sorted_pages.proofs.page.deal.Given as goal
use Rattle.std.proofs.Common.{◌≡◌}
use Rattle.std.specs.Vec.{vec_capacity}
use Rattle.std.specs.Vec.Iter.{into_iter_items}
use Rattle.sorted_pages.proofs.Deals.{Dealt}

abbrev pub invariant-loop-entry : goal.invariant-loop-entry
invariant-loop-entry g l =
    (goal.iterator-loop-entry g).can_next l.entry-iterator ×
    (goal.iterator-loop-entry g).is_finite l.entry-iterator ×
    Dealt l.at (into_iter_items l.initial.entry-iterator) (into_iter_items l.entry-iterator) l.lower.items l.upper.items ×
    (vec_capacity l.lower ≡ vec_capacity l.initial.lower) ×
    (vec_capacity l.upper ≡ vec_capacity l.initial.upper)
