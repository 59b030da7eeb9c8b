use Rattle.versions.proofs.reclaiming.join_groups.Goals as goal
use Rattle.std.proofs.Common.{◌+◌, ◌<◌, ◌≤◌, List, length, take, sym, ap, subst, refl, ◌∙◌, arith}
use Rattle.std.specs.List.{AllByRecursion}
use Rattle.model.proofs.Elements.{all-remove}
use Rattle.versions.proofs.Groups.{garbage-empty, found-remove, keeps-itself, keeps-on}
use Rattle.versions.proofs.UnderPins.{IsUnder}
use Rattle.versions.proofs.Pins.{apart-next, among-remove, greatest-next, lists-remove, take-get, take-remove}
use Rattle.versions.specs.Groups.{GroupValue}
use Rattle.versions.specs.Listings.{AreAmong, AreApart, AreUnclassifiedCollected, IsCollected, IsTrulyUnclassified}
use Rattle.versions.specs.Listings.{lists_in, pins}
use Rattle.versions.specs.Reclaiming.{KeepsListed}
use Rattle.versions.specs.Pins.{AreUnderPins}

pub join-requires : goal.join-requires
join-requires c = record {
  place = record { within = omega arith; pins_before = c.loop-i.invariant.greatest };
  few = (let before = c.loop-i.invariant.lists in let most = c.requires in omega (arith, before, most));
}

pub loop-i-init : goal.loop-i-init
loop-i-init c = record { keeps = keeps-itself c.args.groups.now.items; lists = omega arith; apart = tt; greatest = tt }

pub loop-i-preserved-then-is_empty : goal.loop-i-preserved-then-is_empty
loop-i-preserved-then-is_empty c =
    let gs = c.loop-i.groups.items in
    let hs = c.remove.new.self.items in
    let i = c.loop-i.i in
    let g = c.index.result.now in
    let less = c.remove.ensures.items in
    let keeps : KeepsListed gs hs = record {
      found = found-remove gs hs i g (omega arith) c.index.ensures less (c.if-is_empty.ensures.none refl);
      garbage = λ bs. garbage-empty bs gs hs i g (omega arith) c.index.ensures less (c.if-is_empty.ensures.garbage refl bs);
      active = λ bs h. subst (λ (l : List GroupValue). AreAmong bs (pins l)) (sym less) (among-remove bs gs i h);
      truly = λ bs h. subst (λ (l : List GroupValue). AllByRecursion (IsTrulyUnclassified bs) l) (sym less) (all-remove (IsTrulyUnclassified bs) gs i h);
      unclassified = λ bs es h. subst (λ (l : List GroupValue). AreUnclassifiedCollected bs es l) (sym less)
          (all-remove (λ x. AllByRecursion (IsCollected bs es) x.unclassified) gs i h);
      each = λ active v h. subst (λ (l : List GroupValue). AreUnderPins active v l) (sym less) (all-remove (IsUnder active v) gs i h);
    } in
    record {
      keeps = keeps-on c.args.groups.now.items gs hs c.loop-i.invariant.keeps keeps;
      lists = (let sum = lists-remove gs i g (omega arith) c.index.ensures in let now = ap lists_in less in let
          before = c.loop-i.invariant.lists in omega (arith, sum, now, before));
      apart = subst AreApart (sym (ap (λ (l : List GroupValue). take i (pins l)) less ∙ take-remove (λ (g : GroupValue). g.pin) gs i))
          c.loop-i.invariant.apart;
      greatest = subst (AllByRecursion (λ n. n ≤ c.loop-i.greatest))
          (sym (ap (λ (l : List GroupValue). take i (pins l)) less ∙ take-remove (λ (g : GroupValue). g.pin) gs i)) c.loop-i.invariant.greatest;
    }

pub loop-i-preserved : goal.loop-i-preserved
loop-i-preserved c =
    let e = c.join.ensures in
    let inv = c.loop-i.invariant in
    record {
      keeps = keeps-on c.args.groups.now.items c.loop-i.groups.items c.join.new.groups.items inv.keeps e.keeps;
      lists = omega (arith, e.lists, inv.lists);
      apart = subst AreApart (sym e.first) inv.apart;
      greatest = subst (AllByRecursion (λ n. n ≤ c.loop-i.greatest)) (sym e.first) inv.greatest;
    }

pub loop-i-preserved-then-not-join : goal.loop-i-preserved-then-not-join
loop-i-preserved-then-not-join c =
    let e = c.join.ensures in
    let inv = c.loop-i.invariant in
    let alone = c.if-not-join.ensures.apart refl in
    let hs = c.join.new.groups.items in
    let within : c.loop-i.i < length hs = omega (arith, ap (λ (l : List GroupValue). length l) alone.same) in
    record {
      keeps = keeps-on c.args.groups.now.items c.loop-i.groups.items c.join.new.groups.items inv.keeps e.keeps;
      lists = omega (arith, e.lists, inv.lists);
      apart = subst (λ (l : List GroupValue). AreApart (take (c.loop-i.i + 1) (pins l))) (sym alone.same)
          (apart-next c.loop-i.groups.items c.loop-i.i (omega arith) inv.apart alone.other);
      greatest = greatest-next hs c.loop-i.i c.loop-i.greatest c.max-greatest.result within
          (subst (AllByRecursion (λ n. n ≤ c.loop-i.greatest)) (sym e.first) inv.greatest) (omega (arith, c.max-greatest.ensures))
          (let own = take-get (λ (g : GroupValue). g.pin) hs c.loop-i.i c.index-then-not-join.result.now 0 within c.index-then-not-join.ensures in omega (
            arith,
            own,
            c.pin.ensures,
            c.max-greatest.ensures,
          ));
    }
