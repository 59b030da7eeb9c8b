use Rattle.versions.proofs.listing.Group.keep.Goals as goal
use Rattle.std.proofs.Common.{◌≡◌, ◌&&◌, ◌++◌, true, false, inr, length, ap, sym, subst, ◌∙◌, arith}
use Rattle.std.proofs.lemmas.Bool.{and_left}
use Rattle.std.proofs.lemmas.Grind.{common_steps}
use Rattle.std.proofs.lemmas.List.{length-append}
use Rattle.std.specs.List.{AllByRecursion, list_all}
use Rattle.model.proofs.Elements.{all-append}
use Rattle.versions.proofs.Groups.{unseen, unseen-put}
use Rattle.versions.proofs.Lists.{in-append, in-seen}
use Rattle.versions.proofs.Parts.{all-seen_more}
use Rattle.versions.proofs.listing.Group.keep.Goals.{else-contains-via-then-contains+else-are_seen_from}
use Rattle.versions.proofs.listing.Group.keep.Goals.{else-contains-via-else-contains}
use Rattle.versions.specs.Groups.{GroupValue, Listed}
use Rattle.versions.specs.Listings.{AreSeenFrom, IsCollected, is_seen_from, versions_in}
use Rattle.versions.specs.Meaning.{is_among}
use Rattle.versions.specs.Pins.{IsUnderPin}

pub invariant_of-self : goal.invariant_of-self
invariant_of-self c =
    let n = c.self.inside.pin in
    let lists = c.self.inside.lists in
    let all = ap (λ (g : GroupValue). g.lists) c.self.view_is in
    let more = ap length c.append.ensures ∙ length-append lists c.args.lists in
    let fits = c.requires.fits in (
      subst (AreSeenFrom n) (sym (ap versions_in c.append.ensures ∙ in-append lists c.args.lists))
          (all-append (λ (v : Listed). is_seen_from n v
          ≡ true) (versions_in lists) (versions_in c.args.lists) c.self.invariant.0 (in-seen n c.args.lists (sym c.if-are_seen_from.ensures))),
      omega (arith, all, more, fits),
      c.self.invariant.2,
    )

pub returns-then-are_seen_from-clause-versions : goal.returns-then-are_seen_from-clause-versions
returns-then-are_seen_from-clause-versions c =
    let g = c.self.inside in
    let put = ap versions_in c.append.ensures ∙ in-append g.lists c.args.lists in
    let all = λ (P : Listed → Type 0) (h : AllByRecursion P c.args.self.now.versions). (
    all-seen_more P (versions_in g.lists) (versions_in g.garbage ++ versions_in g.unclassified) (versions_in c.args.lists) (versions_in c.append.new.lists) put
    (subst (λ (x : GroupValue). AllByRecursion P x.versions) (sym c.self.view_is) h)) in
    let unclassified = λ (P : Listed → Type 0) (h : AllByRecursion P c.args.self.now.unclassified). (
    subst (λ (x : GroupValue). AllByRecursion P x.unclassified) (sym c.self.view_is) h) in
    record {
      found = grind (arith, common_steps);
      kept = grind (arith, common_steps);
      collected = λ chains. all (IsCollected c.args.begins.now chains);
      unclassified = λ chains h more. unclassified (IsCollected c.args.begins.now chains) h;
      each = λ active v w h hm more. (all (IsUnderPin active v w) h more, unclassified (IsUnderPin active v w) hm);
    }

pub returns-else-contains-clause-versions : goal.returns-else-contains-clause-versions
returns-else-contains-clause-versions c = record {
  found = grind (arith, common_steps);
  kept = grind (arith, common_steps);
  collected = grind (arith, common_steps);
  unclassified = grind (arith, common_steps);
  each = grind (arith, common_steps);
}

pub returns-else-contains-clause-truly : goal.returns-else-contains-clause-truly
returns-else-contains-clause-truly c = λ none.
    let bs = c.args.begins.now in
    let w = c.self.inside.pin in
    let unclassified = c.self.inside.unclassified in
    let unfit : (is_among bs w && list_all (is_seen_from w) (versions_in c.args.lists)) ≡ false = elim c.else-contains.branch [
      | else-contains-via-then-contains+else-are_seen_from b ↦ unseen bs w c.args.lists (sym b.are_seen_from.ensures ∙ b.if-are_seen_from.false)
      | else-contains-via-else-contains b ↦ and_left _ _ (sym c.contains.ensures ∙ b.if-contains.false)
    ] in
    let put = c.append-else-contains.ensures in
    let lists = ap length put ∙ length-append unclassified c.args.lists in
    let listed = ap (λ l. length (versions_in l)) put ∙ ap length (in-append unclassified c.args.lists)
    ∙ length-append (versions_in unclassified) (versions_in c.args.lists) in (
      omega (arith, lists, listed, c.self.invariant.2, c.requires.filled),
      inr (unseen-put bs w (versions_in unclassified) (versions_in c.args.lists) (versions_in c.append-else-contains.new.lists) (ap versions_in put
          ∙ in-append unclassified c.args.lists) (ap (λ (x : GroupValue). x.unclassified) c.self.view_is ∙ none) unfit),
    )
