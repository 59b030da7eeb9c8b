use Rattle.versions.proofs.reclaiming.collect_first.Goals as goal
use Rattle.std.proofs.Common.{sym, subst}
use Rattle.sorted_pages.specs.Pages.{entries}
use Rattle.versions.proofs.Lists.{in-one, in-only}
use Rattle.versions.specs.Listings.{versions_in}
use Rattle.versions.specs.Reclaiming.{DropsUnseen}

pub returns-clause-versions : goal.returns-clause-versions
returns-clause-versions c =
    let drops = DropsUnseen c.args.begins.now (entries c.drop_unseen.new.chains.pages) in
    let were = in-one c.args.lists.now c.in-Some.list.now c.requires.one c.in-Some.ensures.value in
    let are = in-only c.args.lists.now c.drop_unseen.new.versions c.requires.one in
    subst (drops (versions_in c.args.lists.now)) (sym are)
    (subst (λ vs. drops vs c.drop_unseen.new.versions.items) (sym were) c.drop_unseen.ensures.versions)
