use Rattle.versions.proofs.reclaiming.reclaim_versions.Goals as goal
use Rattle.std.proofs.Common.{◌≡◌, ℕ, List, ◌∷◌, ◌++◌, drop, take, length, rules, sym, ap, subst, ◌∙◌, arith}
use Rattle.std.proofs.Math.Seq.{take-append_seam}
use Rattle.std.proofs.lemmas.List.{length-map}
use Rattle.std.specs.List.{AllByRecursion}
use Rattle.std.specs.Prelude.{nat_lt}
use Rattle.sorted_pages.specs.Pages.{entries}
use Rattle.versions.proofs.Listings.{groups-found}
use Rattle.versions.proofs.Pins.{apart-few}
use Rattle.versions.specs.Groups.{GroupValue}
use Rattle.versions.specs.Listings.{AreAmong, AreUnclassifiedCollected, IsListed, IsTrulyUnclassified, pins}
use Rattle.versions.specs.Meaning.{garbage_in}
use Rattle.versions.specs.Pins.{AreUnderPins}

-- what is in the vector once its items were changed
written_back : (items groups : List GroupValue) (n : ℕ) → n ≡ length groups → groups ≡ take n (groups ++ drop (length groups) items)
written_back items groups n long =
    sym (ap (λ n. take n (groups ++ drop (length groups) items)) long ∙ take-append_seam groups (drop (length groups) items))

pub returns : goal.returns
returns c =
    let bs = c.of-begins.result in
    let es = entries c.reclaim_groups-spare.new.chains.pages in
    let groups = c.reclaim_groups-spare.new.groups in
    let joined = c.join_groups.ensures.keeps in
    let step = c.reclaim_groups-spare.ensures.step in
    let looked = c.reclaim_groups-spare.ensures.groups in
    let are = written_back c.args.groups.now.items groups c.args.groups.now.len
    (omega (arith, c.deref_mut.ensures.len, c.reclaim_groups-spare.auto.groups)) in
    let all = take c.args.groups.now.len (groups ++ drop (length groups) c.args.groups.now.items) in
    let active = joined.active (0 ∷ bs) (subst (λ (l : List GroupValue). AreAmong (0 ∷ bs) (pins l)) are looked.active) in
    let few = apart-few (pins c.join_groups.new.groups.items) (0 ∷ bs) c.join_groups.ensures.apart active in
    rw (sym c.of-begins.ensures) (record {
      still = c.is_garbage_left.ensures ∙ ap (λ (gs : List GroupValue). nat_lt 0 (garbage_in bs gs)) c.deref.ensures.value;
      step = record { garbage = search rules; pages = step.pages; all = search rules };
      groups = record {
        listed = groups-found es all c.join_groups.new.groups.items joined.found (subst (IsListed es) are looked.listed);
        lists = search rules;
        active = active;
        truly = joined.truly bs (subst (AllByRecursion (IsTrulyUnclassified bs)) are looked.truly);
        unclassified = joined.unclassified bs es (subst (AreUnclassifiedCollected bs es) are looked.unclassified);
        each = λ more now v u stands under. (
            let old = subst (AreUnderPins more v) (sym c.deref_mut.ensures.value) under in
            joined.each now u (subst (AreUnderPins now u) are (looked.each more now v u stands old)));
      };
      few = omega (arith, few, length-map c.join_groups.new.groups.items (λ (g : GroupValue). g.pin));
    })

pub is_garbage_left-requires : goal.is_garbage_left-requires
is_garbage_left-requires c = λ some.
    let bs = c.of-begins.result in
    let groups = c.reclaim_groups-spare.new.groups in
    let are = written_back c.args.groups.now.items groups c.args.groups.now.len
    (omega (arith, c.deref_mut.ensures.len, c.reclaim_groups-spare.auto.groups)) in
    ap (garbage_in bs) c.deref.ensures.value ∙ c.join_groups.ensures.keeps.garbage bs ∙ ap (garbage_in bs) (sym are)
    ∙ c.reclaim_groups-spare.ensures.none_left some
