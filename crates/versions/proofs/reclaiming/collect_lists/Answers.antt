use Rattle.versions.proofs.reclaiming.collect_lists.Goals as goal
use Rattle.std.proofs.Common.{◌≡◌, ◌≤◌, ◌+◌, ◌++◌, length, sym, ap, subst, ◌∙◌, arith}
use Rattle.std.proofs.lemmas.List.{length-drop, append-nil, length-append}
use Rattle.std.specs.List.{AllByRecursion}
use Rattle.sorted_pages.specs.Pages.{entries}
use Rattle.versions.proofs.Lists.{in-append, in-empty, in-none, in-some, collected-list}
use Rattle.versions.proofs.Pages.{among-on, held-on}
use Rattle.versions.proofs.reclaiming.collect_lists.Goals.{then-not-are_empty, else-not-are_empty}
use Rattle.versions.specs.Listings.{AreKept, AreSeenFrom, versions_in}
use Rattle.versions.specs.Pins.{IsUnderPin}

pub collect_first-requires-clause-kept : goal.collect_first-requires-clause-kept
collect_first-requires-clause-kept c = record {
  last = c.requires.kept.last;
  kept = c.loop.invariant.collected.kept c.requires.kept.last c.requires.kept.kept;
  among = among-on c.args.begins.now c.args.chains.now c.loop.chains c.loop.invariant.held c.requires.kept.among;
}

pub loop-preserved : goal.loop-preserved
loop-preserved c =
    let left = c.collect_first.new.lists in
    let shorter : length c.take_front-first.new.lists + 1 ≡ length c.loop.rest =
    omega (arith, ap length c.take_front-first.ensures.rest, length-drop 1 c.loop.rest) in
    let is : versions_in c.if-not-are_empty.lists ≡ versions_in c.loop.lists ++ versions_in left = elim c.if-not-are_empty.branch [
      | then-not-are_empty w ↦ ap versions_in (w.lists-is ∙ w.append.ensures) ∙ in-append c.loop.lists left
      | else-not-are_empty w ↦ ap versions_in w.lists-is ∙ sym (append-nil (versions_in c.loop.lists))
          ∙ ap (λ l. versions_in c.loop.lists ++ l) (sym (in-empty left (sym w.if-not-are_empty.ensures)))
    ] in
    let counted : length c.if-not-are_empty.lists ≤ length c.loop.lists + 1 = elim c.if-not-are_empty.branch [
      | then-not-are_empty w ↦ omega (arith, ap length (w.lists-is ∙ w.append.ensures), length-append c.loop.lists left, c.collect_first.ensures.one)
      | else-not-are_empty w ↦ omega (arith, ap length w.lists-is)
    ] in
    let filled : length c.if-not-are_empty.lists ≤ length c.loop.lists + length (versions_in left) = elim c.if-not-are_empty.branch [
      | then-not-are_empty w ↦ omega (
        arith,
        ap length (w.lists-is ∙ w.append.ensures),
        length-append c.loop.lists left,
        c.collect_first.ensures.one,
        in-some left (sym w.if-not-are_empty.ensures),
      )
      | else-not-are_empty w ↦ omega (arith, ap length w.lists-is)
    ] in
    record {
      left = omega (arith, shorter);
      counted = omega (arith, shorter, counted);
      filled = omega (arith, filled, ap length is, length-append (versions_in c.loop.lists) (versions_in left), c.loop.invariant.filled);
      collected = collected-list c.args.begins.now (entries c.args.chains.now.pages) (entries c.loop.chains.pages) (entries c.collect_first.new.chains.pages)
          (versions_in c.args.lists.now) c.loop.lists c.if-not-are_empty.lists c.loop.rest c.take_front-first.result left c.take_front-first.new.lists
          c.requires.kept.last c.requires.kept.kept c.take_front-first.ensures.front c.take_front-first.ensures.rest is c.collect_first.ensures.chains.chains
          c.collect_first.ensures.versions c.loop.invariant.collected;
      held = held-on c.args.chains.now c.loop.chains c.collect_first.new.chains c.loop.invariant.held c.collect_first.ensures.chains.held;
    }

pub returns-clause-chains : goal.returns-clause-chains
returns-clause-chains c =
    let s = c.loop.invariant.collected in
    record { chains = record { part = s.part; kept = s.kept }; held = c.loop.invariant.held }

pub returns-clause-versions : goal.returns-clause-versions
returns-clause-versions c =
    let all = in-none (versions_in c.loop.lists) c.loop.rest (omega arith) in
    let s = c.loop.invariant.collected in
    record {
      collected = s.collected;
      left = subst (λ vs. AreKept (versions_in c.args.lists.now) vs (entries c.loop.chains.pages)) all s.left_out;
      seen = λ n h. subst (AreSeenFrom n) all (s.seen n h);
      each = λ active v w h. subst (AllByRecursion (IsUnderPin active v w)) all (s.each active v w h);
    }
