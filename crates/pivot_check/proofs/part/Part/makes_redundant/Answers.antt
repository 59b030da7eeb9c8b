use Rattle.pivot_check.proofs.part.Part.makes_redundant.Goals as goal
use Rattle.std.proofs.Common.{◌≡◌, ◌-◌, ◌∙◌, Some, drop, length, sym, arith}
use Rattle.std.proofs.lemmas.Option.{slice_get_within}
use Rattle.std.specs.Prelude.{slice_get}
use Rattle.pivot_check.proofs.Redundancy.{last_decides}
use Rattle.pivot_check.specs.Active.{reach_of}

pub returns-in-Some : goal.returns-in-Some
returns-in-Some c =
    let ps = drop c.args.self.now.start c.args.self.now.written.items in
    let whole : c.postings.result.now ≡ ps = c.postings.ensures in
    let at : slice_get ps (length ps - 1) ≡ Some c.in-Some.last.now =
    sym (c.in-Some.ensures.value ∙ (λ i. slice_get (whole i) (length (whole i) - 1))) in
    let within = slice_get_within ps (length ps - 1) c.in-Some.last.now at in
    c.makes_redundant.ensures
    ∙ sym (last_decides (reach_of c.args.active.now) ps c.in-Some.last.now c.args.written.now (length ps - 1) (omega (arith, within)) at)
