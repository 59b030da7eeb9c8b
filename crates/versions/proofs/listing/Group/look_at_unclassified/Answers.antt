use Rattle.versions.proofs.listing.Group.look_at_unclassified.Goals as goal
use Rattle.std.proofs.Common.{rules, length, ap, sym, subst, ◌∙◌, arith}
use Rattle.std.proofs.lemmas.Grind.{common_steps}
use Rattle.std.proofs.lemmas.Bool.{eqb-true}
use Rattle.std.specs.List.{AllByRecursion}
use Rattle.sorted_pages.specs.Pages.{entries}
use Rattle.versions.proofs.Parts.{all-parts, all-three, garbage-taken, no-versions, parts-collected}
use Rattle.versions.specs.Groups.{GroupValue}
use Rattle.versions.specs.Listings.{IsCollected, IsRepinned, versions_in}
use Rattle.versions.specs.Pins.{IsUnderPin}

pub returns-clause-group : goal.returns-clause-group
returns-clause-group c =
    let g = c.self.inside in
    record {
      pin = search rules;
      lists = grind (arith, common_steps);
      left = grind (arith, common_steps);
      each = λ active v w h hm. (
          let P = IsUnderPin active v w in
          let own = all-parts P (versions_in g.lists) (versions_in g.garbage) (versions_in g.unclassified)
          (subst (λ (x : GroupValue). AllByRecursion P x.versions) (sym c.self.view_is) h) in
          let none = no-versions P c.replace-unclassified.new.dest (ap length (c.replace-unclassified.ensures.after ∙ c.new.ensures)) in
          c.keep.ensures.versions.each active v w
          (all-three P (versions_in g.lists) (versions_in g.garbage) (versions_in c.replace-unclassified.new.dest) own.0 own.1 none) none
          (c.collect_lists.ensures.versions.each active v w
          (subst (λ l. AllByRecursion P (versions_in l)) (sym c.replace-unclassified.ensures.value) own.2)));
    }

pub returns-clause-looked_after : goal.returns-clause-looked_after
returns-clause-looked_after c =
    let bs = c.args.begins.now in
    let es = entries c.collect_lists.new.chains.pages in
    let none = no-versions (IsCollected bs es) c.replace-unclassified.new.dest (ap length (c.replace-unclassified.ensures.after ∙ c.new.ensures)) in
    let put = c.keep.ensures.versions in
    let left = rw c.numbers.ensures at c.collect_lists.ensures.versions.collected in
    record {
      collected = λ zero. (
          let active = subst (IsRepinned bs) (sym c.self.view_is) c.requires.repinned in
          let no_garbage = sym c.keep.ensures.lists.garbage ∙ sym (garbage-taken bs c.keep.new.self c.keep.ensures.repinned) ∙ zero in
          put.collected es
          (parts-collected bs es c.self.inside.pin c.self.inside.lists c.self.inside.garbage c.replace-unclassified.new.dest active c.self.invariant.0
          no_garbage none)
          left);
      unclassified = put.unclassified es none left;
      truly = grind (arith, common_steps);
    }

pub returns-then-is_empty-clause-looked_after : goal.returns-then-is_empty-clause-looked_after
returns-then-is_empty-clause-looked_after c =
    let bs = c.args.begins.now in
    let es = entries c.args.chains.now.pages in
    let unclassified = no-versions (IsCollected bs es) c.self.inside.unclassified (eqb-true _ _ (sym c.if-is_empty.ensures)) in
    record {
      collected = λ zero. (
          let active = subst (IsRepinned bs) (sym c.self.view_is) c.requires.repinned in
          let no_garbage = ap (λ (g : GroupValue). g.garbage) c.self.view_is ∙ sym (garbage-taken bs c.args.self.now c.requires.repinned) ∙ zero in
          subst (λ (g : GroupValue). AllByRecursion (IsCollected bs es) g.versions) c.self.view_is
          (parts-collected bs es c.self.inside.pin c.self.inside.lists c.self.inside.garbage c.self.inside.unclassified active c.self.invariant.0 no_garbage
          unclassified));
      unclassified = subst (λ (g : GroupValue). AllByRecursion (IsCollected bs es) g.unclassified) c.self.view_is unclassified;
      truly = grind (arith, common_steps);
    }
