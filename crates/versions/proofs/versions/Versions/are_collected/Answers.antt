use Rattle.versions.proofs.versions.Versions.are_collected.Goals as goal
use Rattle.std.proofs.Common.{◌≡◌, [], arith, subst}
use Rattle.std.proofs.lemmas.Bool.Decides.{nat_tests}
use Rattle.std.proofs.lemmas.List.{nil_from_length}
use Rattle.sorted_pages.specs.Pages.{entries}
use Rattle.versions.proofs.NothingLeft.{collected-unlisted}
use Rattle.versions.specs.Chains.{ChainsValue}
use Rattle.versions.specs.Reclaiming.{AreCollected}

pub returns-then-is_empty : goal.returns-then-is_empty
returns-then-is_empty c = λ t.
    let none : c.self.inside.groups.items ≡ [] = nil_from_length _ (grind (arith, nat_tests, c.is_empty.ensures, c.if-is_empty.true)) in
    subst (λ (v : ChainsValue). AreCollected c.args.begins.now v.chains v.groups) c.self.view_is
    (collected-unlisted c.args.begins.now (entries c.self.inside.chains.pages) c.self.inside.groups.items none c.self.invariant.1)
