use Rattle.latest_writes.proofs.sweep.keep_latest.Goals as goal
use Rattle.std.proofs.Common.{arith, ◌∙◌, sym, ap, refl, subst, [], ◌∷◌, ◌++◌, List}
use Rattle.std.proofs.lemmas.Grind.{common_steps}
use Rattle.std.proofs.lemmas.List.{nil_from_length}
use Rattle.model.specs.Map.{KeyWrite}
use Rattle.latest_writes.proofs.Holding.{under, one_more, one_for_last}
use Rattle.latest_writes.proofs.Sweeping.{begun, left_out, kept_more, ended}
use Rattle.latest_writes.proofs.sweep.keep_latest.Goals.{then-not-is_superseded+in_ok-push, else-not-is_superseded}
use Rattle.latest_writes.specs.Buffered.{HasOneOfEach}

pub loop-entry-init : goal.loop-entry-init
loop-entry-init c = rw (c.new-kept.ensures.items, c.into_iter-entry-iterator.ensures.into_iter_gives) record {
  swept = begun _ _ _ (sym c.into_iter-rest.ensures.rest ∙ c.in-Some.ensures.items) c.requires;
  one_of_each = tt;
}

pub loop-entry-preserved : goal.loop-entry-preserved
loop-entry-preserved c =
    let so_far = rw c.in-Some-entry.ensures.steps.0 at c.loop-entry.invariant.swept in
    let each = c.loop-entry.invariant.one_of_each in
    elim c.if-not-is_superseded.branch [
      | then-not-is_superseded+in_ok-push w ↦
          let is = ap (λ v. v.items) w.kept-is ∙ w.in_ok-push.ensures.items in
          record {
            swept = kept_more _ _ _ _ _ _ so_far (w.if-not-is_superseded.ensures.latest refl) is;
            one_of_each = subst (λ (l : List KeyWrite). HasOneOfEach (l ++ c.in-Some-entry.entry ∷ [])) (sym is)
                (one_more _ _ _ each (under c.loop-entry.latest c.in-Some-entry.entry so_far.rising.0 (w.if-not-is_superseded.ensures.latest refl))
                (w.if-not-is_superseded.ensures.value refl));
          }
      | else-not-is_superseded w ↦ rw w.kept-is record {
        swept = left_out _ _ _ _ _ so_far (w.if-not-is_superseded.ensures.superseded refl);
        one_of_each = one_for_last _ _ _ each so_far.rising.0;
      }
    ]

pub returns : goal.returns
returns c = grind (arith, common_steps, nil_from_length, ended)
