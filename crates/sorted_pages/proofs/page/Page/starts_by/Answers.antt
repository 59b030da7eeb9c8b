use Rattle.sorted_pages.proofs.page.Page.starts_by.Goals as goal
use Rattle.std.proofs.Common.{ap, ◌∙◌, arith}
use Rattle.std.proofs.lemmas.Grind.{common_steps}
use Rattle.sorted_pages.proofs.FirstBytes.{starts_head}
use Rattle.sorted_pages.specs.Pages.{Page, starts_by}

pub returns-in-Some : goal.returns-in-Some
returns-in-Some g c =
    let k = c.args.sought.key.bytes.now in
    starts_head k c.self.inside.entries.items c.self.inside.head c.args.sought.head c.self.invariant.0 c.args.sought.is c.if-self-sought.true
    (grind (arith, common_steps)) ∙ ap (λ (p : Page g.row.V.Denot). starts_by k p.0) c.self.view_is
