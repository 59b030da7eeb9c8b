use Rattle.versions.proofs.listing.Group.repin.Goals as goal
use Rattle.std.proofs.Common.{length, ◌≡◌, ◌++◌, ap, sym, subst, ◌∙◌}
use Rattle.std.specs.List.{AllByRecursion}
use Rattle.versions.proofs.Lists.{in-append}
use Rattle.versions.proofs.Parts.{all-parts, all-put, all-three, no-versions}
use Rattle.versions.specs.Groups.{GroupValue}
use Rattle.versions.specs.Listings.{versions_in}
use Rattle.versions.specs.Pins.{IsUnderPin}

pub returns-clause-each : goal.returns-clause-each
returns-clause-each c = λ active v w h hm.
    let P = IsUnderPin active v w in
    let g = c.self.inside in
    let own = all-parts P (versions_in g.lists) (versions_in g.garbage) (versions_in g.unclassified)
    (subst (λ (x : GroupValue). AllByRecursion P x.versions) (sym c.self.view_is) h) in
    let moved : versions_in c.append.new.lists ≡ versions_in g.lists ++ versions_in g.garbage =
    ap versions_in c.append.ensures ∙ in-append c.replace-lists.result c.replace.result
    ∙ ap (λ l. versions_in l ++ versions_in c.replace.result) c.replace-lists.ensures.value
    ∙ ap (λ l. versions_in g.lists ++ versions_in l) c.replace.ensures.value in
    let garbage = all-put P (versions_in g.lists) (versions_in g.garbage) (versions_in c.append.new.lists) moved own.0 own.1 in (
      all-three P (versions_in c.replace-lists.new.dest) (versions_in c.append.new.lists) (versions_in g.unclassified)
          (no-versions P c.replace-lists.new.dest (ap length (c.replace-lists.ensures.after ∙ c.new.ensures))) garbage own.2,
      own.2,
    )
