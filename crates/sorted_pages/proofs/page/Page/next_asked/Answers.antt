use Rattle.sorted_pages.proofs.page.Page.next_asked.Goals as goal
use Rattle.std.proofs.Common.{ap}
use Rattle.sorted_pages.proofs.Flags.{passed_over}
use Rattle.sorted_pages.specs.Pages.{Page}

-- from the page's last change on, nothing is seen of a value that doesn't show
pub returns-clause-shown : goal.returns-clause-shown
returns-clause-shown g c =
    let es = c.self.inside.entries.items in
    let inv = c.self.invariant in
    let passed = rw (c.deref.ensures.value, inv.1.flags) at c.next_flagged.ensures.passed in
    let same = ap (λ (p : Page g.row.V.Denot). p.0) c.self.view_is in
    rw same
    at (passed_over g.V.Versioned.hides g.V.Versioned.shows g.V.Versioned.last c.args.number c.self.inside.last es c.args.from c.next_flagged.result
    inv.3 c.if-number-self.false c.next_flagged.ensures.from passed)
