use Rattle.resp.proofs.parts.Request.part.Goals as goal
use Rattle.std.proofs.Common.{◌<◌, [], ◌∙◌, ap, get_or, length, sym, subst, arith}
use Rattle.std.proofs.lemmas.List.{get_or-map, length-map}
use Rattle.std.proofs.lemmas.List.Elements.{All-get_or}
use Rattle.model.specs.Grammar.{IsPart}
use Rattle.resp.proofs.Lent.{lent}

pub returns-clause-part : goal.returns-clause-part
returns-clause-part c =
    let parts = c.parts.result.now in
    let within : c.args.i < length parts = omega (arith, c.requires, ap length c.parts.ensures.parts, length-map parts lent) in
    subst IsPart (ap (λ xs. get_or xs c.args.i []) (sym c.parts.ensures.parts)
    ∙ get_or-map lent parts c.args.i _ [] within) (All-get_or IsPart c.args.self.now c.args.i [] c.requires c.parts.ensures.request.each)
