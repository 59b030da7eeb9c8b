use Rattle.pivot_check.proofs.part.Part.can_improve_in.Goals as goal
use Rattle.std.proofs.Common.{◌<◌, ◌∙◌, ◌*◌, List, length, get_or, ap, sym, take, drop}
use Rattle.std.proofs.lemmas.Bool.{ltb-true}
use Rattle.std.specs.Prelude.{nat_lt}
use Rattle.model.proofs.Elements.{all-take}
use Rattle.pivot_check.proofs.Passing.{kept, upto_last, all_left}
use Rattle.pivot_check.specs.Bounds.{are_from_bound}
use Rattle.pivot_check.specs.declared.bound.Bound.{Bound}

pub returns-in-Some : goal.returns-in-Some
returns-in-Some c = λ none.
    let run = c.args.self.now in
    let ps = run.written.items in
    let at = 64 * c.args.block in
    let b = c.in-Some.bound.now in
    let bs = run.bounds.items in
    let read = c.in-Some.ensures.lookup.1 ∙ ap (λ (l : List Bound). get_or l c.args.block b) c.deref.ensures.value in
    let within : c.args.block < length bs =
    ltb-true c.args.block (length bs) (ap (λ (l : List Bound). nat_lt c.args.block (length l)) (sym c.deref.ensures.value)
    ∙ sym c.in-Some.ensures.lookup.0) in
    kept c.args.found run.bound.last c.most_below.result c.args.begin c.args.flagged b c.most_below.ensures (c.allows.ensures.none none) (take 64 (drop at ps))
    (all-take _ (drop at ps) 64 (all_left _ at ps (upto_last run.bound ps run.bounded))) (ap (λ x. are_from_bound x (take 64 (drop at ps))) read
    ∙ run.blocks c.args.block b within)
