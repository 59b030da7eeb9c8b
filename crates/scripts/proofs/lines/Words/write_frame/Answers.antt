use Rattle.scripts.proofs.lines.Words.write_frame.Goals as goal
use Rattle.std.proofs.Common.{◌≤◌, List, ℕ, length, map, ap, subst, arith}
use Rattle.std.proofs.lemmas.List.{length-take}
use Rattle.model.specs.Grammar.{array_of_bulks}
use Rattle.resp.proofs.Lent.{lent}
use Rattle.resp.specs.Writing.{AppendsText}
use Rattle.scripts.proofs.Lent.{parts_behind}

pub returns : goal.returns
returns c =
    let words = c.self.inside.parts in
    let count = c.self.inside.count in
    let some : 1 ≤ count = omega (arith, c.requires, ap length c.self.view_is, length-take count (map lent words)) in
    subst (λ (parts : List (List ℕ)). AppendsText c.args.frame.now c.write_request.new.out (array_of_bulks parts) c.write_request.result)
    (parts_behind words c.parts_of-parts.result count c.args.self.now c.parts_of-parts.ensures c.self.view_is some) c.write_request.ensures
