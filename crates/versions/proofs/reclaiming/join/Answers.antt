use Rattle.versions.proofs.reclaiming.join.Goals as goal
use Rattle.std.proofs.Common.{◌≡◌, ◌<◌, List, length, take, get_or, rules, refl, sym, ap, subst, ◌∙◌, arith}
use Rattle.std.proofs.lemmas.Bool.Decides.{nat_tests}
use Rattle.std.specs.List.{AllByRecursion, position}
use Rattle.std.specs.Prelude.{◌==◌}
use Rattle.versions.proofs.Groups.{all-joined, garbage-joined, join-found, keeps-itself, under-joined}
use Rattle.versions.proofs.UnderPins.{IsUnder}
use Rattle.versions.proofs.Pins.{found-before, join-fits, lists-joined, pins-set, take-remove, among-remove}
use Rattle.versions.proofs.Pins.{none-above, none-before, take-get}
use Rattle.versions.specs.Groups.{GroupValue}
use Rattle.versions.specs.Listings.{AreAmong, IsCollected, IsTrulyUnclassified, pins}
use Rattle.versions.specs.Meaning.{is_among}

pub absorb-requires : goal.absorb-requires
absorb-requires c = join-fits c.args.groups.now.items c.remove-group.new.self.items c.args.i c.in-Some.place c.behind-groups.inside.pin c.index-2.result.now
    c.index_mut.result.now c.remove-group.result
    (omega (arith, c.requires.place.within)) c.index-2.ensures (ap (λ (g : GroupValue). g.pin) c.behind-groups.view_is) c.remove-group.ensures.value
    c.remove-group.ensures.items c.index_mut.ensures.value
    (sym (ap (λ (gs : List GroupValue). position (λ g. g.pin == c.behind-groups.inside.pin) (take c.args.i gs)) c.deref.ensures.value)
    ∙ sym c.place_of.ensures ∙ c.in-Some.is) c.requires.few

pub returns-in-Some : goal.returns-in-Some
returns-in-Some c =
    let gs = c.args.groups.now.items in
    let hs = c.remove-group.new.self.items in
    let i = c.args.i in
    let m = c.in-Some.place in
    let a = c.index_mut.result.now in
    let g = c.remove-group.result in
    let j = c.absorb.new.self in
    let w = c.behind-groups.inside.pin in
    let lt : i < length gs = omega (arith, c.requires.place.within) in
    let second = c.remove-group.ensures.value in
    let less = c.remove-group.ensures.items in
    let first = c.index_mut.ensures.value in
    let looked = ap (λ (l : List GroupValue). position (λ g. g.pin == w) (take i l)) c.deref.ensures.value in
    let met = sym looked ∙ sym c.place_of.ensures ∙ c.in-Some.is in
    let own = ap (λ (g : GroupValue). g.pin) c.behind-groups.view_is in
    let joins = join-fits gs hs i m w c.index-2.result.now a g lt c.index-2.ensures own second less first met c.requires.few in
    let short = found-before gs hs i m w a lt less met in
    let same = pins-set hs m a j first c.absorb.ensures.pin in
    let both = c.absorb.ensures.joined in
    record {
      keeps = record {
        found = join-found gs hs i m a g j lt second less short first both.found;
        garbage = λ bs. garbage-joined bs gs hs i m a g j lt second less first short (both.garbage bs);
        active = λ bs h. subst (AreAmong bs) (sym (same ∙ ap pins less)) (among-remove bs gs i h);
        truly = λ bs. all-joined (IsTrulyUnclassified bs) gs hs i m a g j lt second less short first (both.truly bs);
        unclassified = λ bs es. (
            let P = λ (x : GroupValue). AllByRecursion (IsCollected bs es) x.unclassified in
            all-joined P gs hs i m a g j lt second less short first (both.unclassified bs es));
        each = λ active v. all-joined (IsUnder active v) gs hs i m a g j lt second less short first
            (under-joined active v a g j joins.0 c.absorb.ensures.pin both.each);
      };
      lists = lists-joined gs hs i m a g j lt second less short first c.absorb.ensures.lists;
      first = ap (take i) (same ∙ ap pins less) ∙ take-remove (λ (g : GroupValue). g.pin) gs i;
      joined = search rules;
      apart = search rules;
    }

pub returns-in-None-clause-keeps : goal.returns-in-None-clause-keeps
returns-in-None-clause-keeps c = keeps-itself c.args.groups.now.items

pub returns-in-None-clause-apart : goal.returns-in-None-clause-apart
returns-in-None-clause-apart c = λ t.
    let gs = c.args.groups.now.items in
    let w = c.behind-groups.inside.pin in
    let own : w ≡ get_or (pins gs) c.args.i 0 =
    ap (λ (g : GroupValue). g.pin) c.behind-groups.view_is
    ∙ take-get (λ (g : GroupValue). g.pin) gs c.args.i c.index-2.result.now 0 (omega (arith, c.requires.place.within)) c.index-2.ensures in
    let other = ap (is_among (take c.args.i (pins gs))) (sym own)
    ∙ none-before gs c.args.i w (sym (ap (λ (l : List GroupValue). position (λ g. g.pin == w) (take c.args.i l)) c.deref.ensures.value)
    ∙ sym c.place_of.ensures ∙ c.in-None.is) in
    record { same = refl; other = other }

pub returns-then-is_above-clause-apart : goal.returns-then-is_above-clause-apart
returns-then-is_above-clause-apart c = λ t.
    let gs = c.args.groups.now.items in
    let own = take-get (λ (g : GroupValue). g.pin) gs c.args.i c.index.result.now 0 (omega (arith, c.requires.place.within)) c.index.ensures in
    let above : c.args.greatest < c.index.result.now.pin = grind (arith, nat_tests, c.is_above.ensures, c.if-is_above.true) in
    record {
      same = refl;
      other = none-above (take c.args.i (pins gs)) c.args.greatest (get_or (pins gs) c.args.i 0) c.requires.place.pins_before (omega (arith, own, above));
    }
