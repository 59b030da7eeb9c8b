use Rattle.versions.proofs.listing.Group.look_at_garbage.Goals as goal
use Rattle.std.proofs.Common.{rules, sym, subst, arith}
use Rattle.std.proofs.lemmas.Grind.{common_steps}
use Rattle.std.specs.List.{AllByRecursion}
use Rattle.model.proofs.Elements.{all-back, all-front}
use Rattle.sorted_pages.specs.Pages.{entries}
use Rattle.versions.proofs.Lists.{in-parts}
use Rattle.versions.proofs.Parts.{all-parts, all-three, kept-garbage}
use Rattle.versions.specs.Groups.{GroupValue}
use Rattle.versions.specs.Listings.{AreKept, versions_in}
use Rattle.versions.specs.Pins.{IsUnderPin}

pub returns-clause-group : goal.returns-clause-group
returns-clause-group c =
    let g = c.self.inside in
    let es = entries c.collect_lists.new.chains.pages in
    let taken = c.take_front-lists.result in
    let rest = c.take_front-lists.new.lists in
    let split = in-parts c.args.count g.garbage taken rest c.take_front-lists.ensures.front c.take_front-lists.ensures.rest in
    let looked = c.collect_lists.ensures.versions in
    let put = c.keep.ensures.versions in
    record {
      pin = search rules;
      lists = grind (arith, common_steps);
      left = subst (λ (x : GroupValue). AreKept x.versions c.keep.new.self.versions es) c.self.view_is
          (kept-garbage (versions_in g.lists) (versions_in g.garbage) (versions_in g.unclassified) (versions_in taken) (versions_in c.collect_lists.new.lists)
          (versions_in rest) c.keep.new.self.versions es split looked.left put.found put.kept);
      each = λ active v w h hm. (
          let P = IsUnderPin active v w in
          let own = all-parts P (versions_in g.lists) (versions_in g.garbage) (versions_in g.unclassified)
          (subst (λ (x : GroupValue). AllByRecursion P x.versions) (sym c.self.view_is) h) in
          let garbage = subst (AllByRecursion P) split own.1 in
          put.each active v w
          (all-three P (versions_in g.lists) (versions_in rest)
          (versions_in g.unclassified) own.0 (all-back P (versions_in taken) (versions_in rest) garbage) own.2)
          own.2
          (looked.each active v w (all-front P (versions_in taken) (versions_in rest) garbage)));
    }

pub collect_lists-requires-clause-next : goal.collect_lists-requires-clause-next
collect_lists-requires-clause-next c = rw c.numbers.ensures (search rules)
