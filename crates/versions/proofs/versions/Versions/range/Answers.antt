use Rattle.versions.proofs.versions.Versions.range.Goals as goal
use Rattle.std.proofs.Common.{ap, subst, sym, ◌∙◌}
use Rattle.model.specs.KeyBytes.{end_bytes}
use Rattle.model.specs.Map.{is_in_range, pairs_in_range}
use Rattle.sorted_pages.specs.Pages.{entries}
use Rattle.sorted_pages.specs.Ranges.{shown}
use Rattle.sorted_pages.specs.Summaries.{AreSeen}
use Rattle.versions.proofs.Pages.{known-later}
use Rattle.versions.proofs.Visibles.{visible-where, visible-shown}
use Rattle.versions.specs.Chains.{ChainsValue, hides, visible}
use Rattle.versions.specs.Meaning.{is_known}

pub returns-clause-pairs : goal.returns-clause-pairs
returns-clause-pairs c =
    let lo = c.args.range.lo.bytes.now in
    let hi = end_bytes c.args.range.hi in
    let es = entries c.self.inside.chains.pages in
    c.new.ensures.pairs
    ∙ ap (visible c.args.n) c.range.ensures.entries
    ∙ visible-where c.args.n (is_in_range lo hi) (shown (hides c.args.n) es)
    ∙ ap (λ m. pairs_in_range m lo hi) (visible-shown c.args.n es)
    ∙ ap (λ (v : ChainsValue). pairs_in_range (visible c.args.n v.chains) lo hi) c.self.view_is

pub returns-clause-ahead : goal.returns-clause-ahead
returns-clause-ahead c = λ known.
    let pages = known-later c.args.n c.self.inside.last c.self.inside.chains c.self.invariant.4 (ap (is_known c.args.n) c.self.view_is ∙ known) in
    subst (AreSeen (hides c.args.n)) (sym c.new.ensures.ahead) (c.range.ensures.ahead pages)
