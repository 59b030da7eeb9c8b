use Rattle.pivot_check.proofs.part.Part.push.Goals as goal
use Rattle.std.proofs.Common.{[], ◌∷◌, drop, length, ap, sym, subst, ◌∙◌, arith}
use Rattle.std.proofs.lemmas.List.{drop-append-le, length_push}
use Rattle.pivot_check.proofs.Passing.{bounds_stay, more_from, pushed_from}
use Rattle.pivot_check.specs.Bounds.{are_from_bound, AreBounds}
use Rattle.pivot_check.specs.Postings.{keys_rise}

pub invariant_of-self : goal.invariant_of-self
invariant_of-self c =
    let part = c.args.self.now in
    let ps = part.written.items in
    let w = c.args.written in
    let is = c.push_reserved.ensures.items in
    let longer = ap length is ∙ length_push ps w in
    record {
      within = omega (arith, part.within, longer);
      rising = ap (λ l. keys_rise (drop part.start l)) is ∙ ap keys_rise (drop-append-le part.start ps (w ∷ []) part.within) ∙ c.requires.rising;
      bounded = ap (are_from_bound c.with-self.result) is
          ∙ pushed_from c.with-self.result ps w (more_from part.bound c.with-self.result ps c.with-self.ensures.others part.bounded)
          c.with-self.ensures.posting;
      blocks = subst (AreBounds part.bounds.items) (sym is) (bounds_stay part.bounds.items ps w part.whole part.blocks);
      whole = omega (arith, part.whole, longer);
    }
