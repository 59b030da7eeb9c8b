use Rattle.versions.proofs.reclaiming.reclaim_version.Goals as goal
use Rattle.std.proofs.Common.{ap, subst, ◌∙◌}
use Rattle.model.specs.Map.{Bytes}
use Rattle.sorted_pages.specs.Pages.{entries}
use Rattle.versions.proofs.Stores.{reclaimed-at}
use Rattle.versions.specs.Chains.{IsReclaimedAt}
use Rattle.versions.specs.Groups.{Listed}

pub returns-clause-reclaimed : goal.returns-clause-reclaimed
returns-clause-reclaimed c =
    let es = entries c.args.chains.now.pages in
    subst (λ (k : Bytes). IsReclaimedAt c.args.begins.now k es (entries c.trim_at.new.self.pages)) (c.lend.ensures
    ∙ ap (λ (v : Listed). v.key) c.version.view_is)
    (reclaimed-at c.args.begins.now c.lend.result.bytes.now es (entries c.trim_at.new.self.pages) c.trim_at.ensures.entries)
