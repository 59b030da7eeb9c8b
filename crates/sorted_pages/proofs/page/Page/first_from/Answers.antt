use Rattle.sorted_pages.proofs.page.Page.first_from.Goals as goal
use Rattle.std.proofs.Common.{arith, drop}
use Rattle.std.proofs.lemmas.Grind.{common_steps}
use Rattle.sorted_pages.proofs.Tails.{tail_of}

pub returns-in-None : goal.returns-in-None
returns-in-None g c =
    let i = c.split_place.result in
    record { tail = drop i c.args.self.now.0; from = tail_of c.args.self.now.0 c.args.key.bytes.now i c.split_place.ensures; is = grind (arith, common_steps) }

pub returns-in-Some : goal.returns-in-Some
returns-in-Some g c =
    let i = c.split_place.result in
    record { tail = drop i c.args.self.now.0; from = tail_of c.args.self.now.0 c.args.key.bytes.now i c.split_place.ensures; is = grind (arith, common_steps) }
