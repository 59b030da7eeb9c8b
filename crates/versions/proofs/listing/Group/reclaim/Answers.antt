use Rattle.versions.proofs.listing.Group.reclaim.Goals as goal
use Rattle.std.proofs.Common.{rules, arith}
use Rattle.std.proofs.lemmas.Grind.{common_steps}
use Rattle.sorted_pages.specs.Pages.{entries}
use Rattle.versions.proofs.Pages.{reclaimable-on, reclaims-on}
use Rattle.versions.proofs.Parts.{kept-twice}

pub look_at_unclassified-requires-clause-kept : goal.look_at_unclassified-requires-clause-kept
look_at_unclassified-requires-clause-kept c =
    reclaimable-on c.args.begins.now c.args.chains.now c.look_at_garbage.new.chains c.look_at_garbage.ensures.chains c.requires.kept

pub returns-clause-chains : goal.returns-clause-chains
returns-clause-chains c =
    reclaims-on c.args.begins.now c.args.chains.now c.look_at_garbage.new.chains c.look_at_unclassified.new.chains c.requires.kept
    c.look_at_garbage.ensures.chains c.look_at_unclassified.ensures.chains

pub returns-clause-group : goal.returns-clause-group
returns-clause-group c =
    let first = c.look_at_garbage.ensures.group in
    let second = c.look_at_unclassified.ensures.group in
    record {
      pin = search rules;
      lists = grind (arith, common_steps);
      left = kept-twice c.args.begins.now (entries c.look_at_garbage.new.chains.pages) (entries c.look_at_unclassified.new.chains.pages)
          c.args.self.now.versions c.repin.new.self.versions c.look_at_garbage.new.self.versions c.look_at_unclassified.new.self.versions
          c.repin.ensures.found c.look_at_unclassified.ensures.chains.chains.part first.left second.left;
      each = λ active v w h hm. (
          let one = c.repin.ensures.each active v w h hm in
          let two = first.each active v w one.0 one.1 in
          second.each active v w two.0 two.1);
    }
