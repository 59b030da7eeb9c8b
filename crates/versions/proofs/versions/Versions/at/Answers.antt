use Rattle.versions.proofs.versions.Versions.at.Goals as goal
use Rattle.std.proofs.Common.{Some, None, ap, ◌∙◌}
use Rattle.model.specs.Map.{value_at}
use Rattle.sorted_pages.specs.Pages.{entries}
use Rattle.versions.proofs.Calls.{seen_found}
use Rattle.versions.specs.Chains.{ChainsValue, visible}

pub returns-in-Some-clause-value : goal.returns-in-Some-clause-value
returns-in-Some-clause-value c =
    let k = c.args.key.bytes.now in
    c.seen.ensures.value ∙ seen_found c.args.n k (entries c.self.inside.chains.pages) (Some c.in-Some.chain.now) c.self.invariant.0.sorted c.in-Some.ensures
    ∙ ap (λ (v : ChainsValue). value_at (visible c.args.n v.chains) k) c.self.view_is

pub returns-in-None-clause-value : goal.returns-in-None-clause-value
returns-in-None-clause-value c =
    let k = c.args.key.bytes.now in
    seen_found c.args.n k (entries c.self.inside.chains.pages) None c.self.invariant.0.sorted c.in-None.ensures
    ∙ ap (λ (v : ChainsValue). value_at (visible c.args.n v.chains) k) c.self.view_is
