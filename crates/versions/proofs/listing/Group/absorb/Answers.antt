use Rattle.versions.proofs.listing.Group.absorb.Goals as goal
use Rattle.std.proofs.Common.{ap, sym, subst, ◌∙◌, arith}
use Rattle.std.proofs.lemmas.Grind.{common_steps}
use Rattle.std.specs.List.{AllByRecursion}
use Rattle.versions.proofs.Lists.{in-append}
use Rattle.versions.proofs.Parts.{all-parts, all-put, all-three}
use Rattle.versions.specs.Groups.{GroupValue}
use Rattle.versions.specs.Listings.{versions_in}
use Rattle.versions.specs.Pins.{IsUnderPin}

pub returns-clause-joined : goal.returns-clause-joined
returns-clause-joined c = record {
  found = grind (arith, common_steps);
  garbage = grind (arith, common_steps);
  truly = grind (arith, common_steps);
  unclassified = grind (arith, common_steps);
  each = λ active v w h hm g gm. (
      let P = IsUnderPin active v w in
      let a = c.self.inside in
      let b = c.other.inside in
      let own = all-parts P (versions_in a.lists) (versions_in a.garbage) (versions_in a.unclassified)
      (subst (λ (x : GroupValue). AllByRecursion P x.versions) (sym c.self.view_is) h) in
      let others = all-parts P (versions_in b.lists) (versions_in b.garbage) (versions_in b.unclassified)
      (subst (λ (x : GroupValue). AllByRecursion P x.versions) (sym c.other.view_is) g) in
      let lists = all-put P (versions_in a.lists) (versions_in b.lists) (versions_in c.append.new.lists) (ap versions_in c.append.ensures
      ∙ in-append a.lists b.lists) own.0 others.0 in
      let garbage = all-put P (versions_in a.garbage) (versions_in b.garbage) (versions_in c.append-2.new.lists) (ap versions_in c.append-2.ensures
      ∙ in-append a.garbage b.garbage) own.1 others.1 in
      let unclassified = all-put P (versions_in a.unclassified) (versions_in b.unclassified) (versions_in c.append-3.new.lists)
      (ap versions_in c.append-3.ensures
      ∙ in-append a.unclassified b.unclassified) own.2 others.2 in (
        all-three P (versions_in c.append.new.lists) (versions_in c.append-2.new.lists) (versions_in c.append-3.new.lists) lists garbage unclassified,
        unclassified,
      ));
}
