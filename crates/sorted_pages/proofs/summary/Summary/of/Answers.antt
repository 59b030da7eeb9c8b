use Rattle.std.proofs.Common.{◌∙◌, ap}
use Rattle.std.specs.Prelude.{nat_lt, ◌&&◌}
use Rattle.sorted_pages.proofs.Summaries.{summary-of}
use Rattle.sorted_pages.specs.Held.{bit_of}
use Rattle.sorted_pages.specs.Summaries.{are_hidden}
use Rattle.sorted_pages.proofs.summary.Summary.of.Goals as goal

pub returns-clause-summary : goal.returns-clause-summary
returns-clause-summary g c =
    let v = g.V.Versioned in
    summary-of v.hides v.shows v.last c.args.held.now c.args.page.now.0 _ c.requires.over c.shows.ensures
    (λ i n at. c.bits_hiding.ensures i n at ∙ ap (λ es. bit_of (nat_lt n c.args.last && are_hidden (v.hides n) es)) c.entries.ensures)
