use Rattle.pivot_check.proofs.by_start.ByStart.of.Goals as goal
use Rattle.std.proofs.Common.{◌≡◌, ℕ, List, drop, length, sym, ap, subst, ◌∙◌}
use Rattle.std.proofs.lemmas.List.{take_at}
use Rattle.std.specs.Prelude.{IsPermutation}
use Rattle.marks.specs.Marked.{marks_of}
use Rattle.pivot_check.proofs.PlacedMarks.{in_any_order}
use Rattle.pivot_check.specs.Places.{places_upto, AreAllPlaces}

pub invariant_of-result : goal.invariant_of-result
invariant_of-result c =
    let old = c.places_of-places.result.items in
    let new = c.sort_unstable_by.new.self in
    let sorted : IsPermutation (places_upto (length c.args.marks.now)) new =
    subst (λ (l : List ℕ). IsPermutation l new) (c.deref_mut.ensures.value ∙ c.places_of-places.ensures) c.sort_unstable_by.ensures.permutation in
    let long : length new ≡ length old = c.sort_unstable_by.ensures.len ∙ ap (λ (l : List ℕ). length l) c.deref_mut.ensures.value in
    record {
      all = subst (AreAllPlaces (marks_of c.args.marks.now)) (sym (take_at new (drop (length new) old) (length old) long))
          (in_any_order c.args.marks.now new sorted);
    }
