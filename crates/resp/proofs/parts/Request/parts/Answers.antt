use Rattle.resp.proofs.parts.Request.parts.Goals as goal
use Rattle.std.proofs.Common.{◌∙◌, sym}
use Rattle.std.proofs.lemmas.List.{take-map}
use Rattle.resp.proofs.Lent.{lent}

pub returns-clause-parts : goal.returns-clause-parts
returns-clause-parts c = sym (take-map lent c.self.inside.len c.self.inside.parts) ∙ c.self.view_is
