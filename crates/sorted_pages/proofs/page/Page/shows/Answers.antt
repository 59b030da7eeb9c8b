use Rattle.sorted_pages.proofs.page.Page.shows.Goals as goal
use Rattle.std.proofs.Common.{ap, sym, ◌∙◌}
use Rattle.std.specs.Prelude.{nat_lt}
use Rattle.model.specs.Map.{Bytes}
use Rattle.sorted_pages.proofs.Flags.{any-count}
use Rattle.sorted_pages.specs.Pages.{Page}
use Rattle.sorted_pages.specs.Summaries.{is_any_shown}

pub returns : goal.returns
returns g c =
    ap (λ n. nat_lt 0 n) (sym c.self.invariant.2)
    ∙ any-count (λ (e : Bytes × g.row.V.Denot). g.V.Versioned.shows e.1) c.self.inside.entries.items
    ∙ ap (λ (p : Page g.row.V.Denot). is_any_shown g.V.Versioned.shows p.0) c.self.view_is
