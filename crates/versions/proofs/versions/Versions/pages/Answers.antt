use Rattle.versions.proofs.versions.Versions.pages.Goals as goal
use Rattle.std.proofs.Common.{ap, ◌∙◌, length}
use Rattle.versions.specs.Chains.{ChainsValue}

pub returns : goal.returns
returns c = c.pages.ensures ∙ ap (λ (v : ChainsValue). length v.pages) c.self.view_is
