use Rattle.versions.proofs.versions.Versions.prepare.Goals as goal
use Rattle.std.proofs.Common.{rules, ◌≡◌, ◌-◌, length, take, drop, sym, ap, subst, ◌∙◌, refl, false, true, arith}
use Rattle.std.proofs.lemmas.Bool.{both_ways}
use Rattle.std.proofs.lemmas.List.{take_rest}
use Rattle.std.specs.List.{AllByRecursion}
use Rattle.model.specs.Map.{Bytes, KeyWrite}
use Rattle.sorted_pages.specs.Pages.{is_together}
use Rattle.versions.proofs.Calls.{all-placed, preparing, placed-at}
use Rattle.versions.proofs.Histories.{stands-same}
use Rattle.versions.proofs.Stores.{roomier-refl, roomier-trans, same-roomier}
use Rattle.versions.specs.Chains.{find_chain, ChainHasRoom, HavePlaces, ChainsValue, AreRoomier}
use Rattle.versions.specs.Meaning.{IsSameMeaning}
use Rattle.versions.specs.StandsFor.{StandForSame}

-- room for the list and for the groups changes no chain, and the histories stay
reserved : (old now inside new : ChainsValue) → AreRoomier old.chains now.chains → now.last ≡ old.last → now.groups ≡ old.groups → now.held ≡ old.held
    → inside ≡ now → new.chains ≡ inside.chains → new.last ≡ inside.last → new.groups ≡ inside.groups → new.held ≡ inside.held
    → IsSameMeaning old new × StandForSame old new
reserved old now inside new more last groups held view same last' groups' held' =
    let roomier = subst (AreRoomier old.chains) (sym (same ∙ ap (λ (v : ChainsValue). v.chains) view)) more in
    let meaning = same-roomier old new roomier (last' ∙ ap (λ (v : ChainsValue). v.last) view ∙ last) in (
      meaning,
      λ active base history. stands-same old active base history new meaning roomier (groups' ∙ ap (λ (v : ChainsValue). v.groups) view ∙ groups)
          (held' ∙ ap (λ (v : ChainsValue). v.held) view ∙ held),
    )

pub loop-i-init : goal.loop-i-init
loop-i-init c = search (rules, roomier-refl)

pub loop-i-preserved : goal.loop-i-preserved
loop-i-preserved c =
    let e = c.make_room.ensures.roomier in
    let inv = c.loop-i.invariant in
    let roomier = roomier-trans c.args.self.now.chains c.loop-i.self.chains c.make_room.new.self.chains inv.roomier e.chains in
    let prepared = preparing c.args.writes.now c.loop-i.i c.index-writes-i.result c.lend_key.result.bytes.now
    c.loop-i.self.chains c.make_room.new.self.chains c.loop-i.self.pages c.make_room.new.self.pages
    (take (length c.args.writes.now - c.loop-i.i) (drop c.loop-i.i c.args.writes.now))
    (omega arith) c.index-writes-i.is c.lend_key.ensures (take_rest c.args.writes.now c.loop-i.i) e.chains e.rooms e.apart c.loop-i.invariant.prepared
    c.in_ok-make_room.ensures.room c.in_ok-make_room.ensures.place in
    let apart = λ (j k : Bytes) (t : is_together j k c.make_room.new.self.pages ≡ true). inv.apart j k (e.apart j k t) in
    search (
      arith,
      roomier,
      prepared,
      apart,
      ◌∙◌,
      e.rooms,
      e.last,
      e.held,
      e.groups,
      e.listed_spare,
      e.groups_spare,
      inv.pages,
      inv.last,
      inv.held,
      inv.groups,
      inv.listed_spare,
      inv.groups_spare,
    )

-- ---- a chain was refused its room

pub returns-in_err-make_room-clause-same : goal.returns-in_err-make_room-clause-same
returns-in_err-make_room-clause-same c =
    let more = c.make_room.ensures.roomier in
    same-roomier c.args.self.now c.make_room.new.self
    (roomier-trans c.args.self.now.chains c.loop-i.self.chains c.make_room.new.self.chains c.loop-i.invariant.roomier more.chains)
    (more.last ∙ c.loop-i.invariant.last)

pub returns-in_err-make_room-clause-stands : goal.returns-in_err-make_room-clause-stands
returns-in_err-make_room-clause-stands c = λ active base history.
    let more = c.make_room.ensures.roomier in
    stands-same c.args.self.now active base history _ (returns-in_err-make_room-clause-same c)
    (roomier-trans c.args.self.now.chains c.loop-i.self.chains c.make_room.new.self.chains c.loop-i.invariant.roomier more.chains)
    (more.groups ∙ c.loop-i.invariant.groups) (more.held ∙ c.loop-i.invariant.held)

pub returns-in_err-make_room-clause-known : goal.returns-in_err-make_room-clause-known
returns-in_err-make_room-clause-known c = λ p.
    let ws = c.args.writes.now in
    let k = c.lend_key.result.bytes.now in
    let es = c.args.self.now.chains in
    let fs = c.loop-i.self.chains in
    let more = c.loop-i.invariant.roomier in
    let at = placed-at ws c.loop-i.i c.index-writes-i.result k es fs c.args.self.now.pages c.loop-i.self.pages
    (take (length ws - c.loop-i.i) (drop c.loop-i.i ws))
    (omega arith) c.index-writes-i.is c.lend_key.ensures (take_rest ws c.loop-i.i) more c.loop-i.invariant.pages c.loop-i.invariant.apart p.chains p.places in
    absurd (both_ways false refl (c.in_err-make_room.ensures.known at.0 at.1))

-- ---- the list, or the groups, were refused theirs

pub returns-in_err-reserve_list-clause-same : goal.returns-in_err-reserve_list-clause-same
returns-in_err-reserve_list-clause-same c =
    (reserved c.args.self.now c.loop-i.self _ _ c.loop-i.invariant.roomier c.loop-i.invariant.last c.loop-i.invariant.groups
    c.loop-i.invariant.held c.self.view_is refl refl refl refl).0

pub returns-in_err-reserve_list-clause-stands : goal.returns-in_err-reserve_list-clause-stands
returns-in_err-reserve_list-clause-stands c =
    (reserved c.args.self.now c.loop-i.self _ _ c.loop-i.invariant.roomier c.loop-i.invariant.last c.loop-i.invariant.groups
    c.loop-i.invariant.held c.self.view_is refl refl refl refl).1

pub returns-in_err-reserve-clause-same : goal.returns-in_err-reserve-clause-same
returns-in_err-reserve-clause-same c =
    (reserved c.args.self.now c.loop-i.self _ _ c.loop-i.invariant.roomier c.loop-i.invariant.last c.loop-i.invariant.groups
    c.loop-i.invariant.held c.self.view_is refl refl c.reserve.ensures.items refl).0

pub returns-in_err-reserve-clause-stands : goal.returns-in_err-reserve-clause-stands
returns-in_err-reserve-clause-stands c =
    (reserved c.args.self.now c.loop-i.self _ _ c.loop-i.invariant.roomier c.loop-i.invariant.last c.loop-i.invariant.groups
    c.loop-i.invariant.held c.self.view_is refl refl c.reserve.ensures.items refl).1

-- ---- all room is there

pub returns-clause-same : goal.returns-clause-same
returns-clause-same c = (reserved c.args.self.now c.loop-i.self _ _ c.loop-i.invariant.roomier c.loop-i.invariant.last c.loop-i.invariant.groups
    c.loop-i.invariant.held c.self.view_is refl refl c.reserve.ensures.items refl).0

pub returns-clause-stands : goal.returns-clause-stands
returns-clause-stands c =
    (reserved c.args.self.now c.loop-i.self _ _ c.loop-i.invariant.roomier c.loop-i.invariant.last c.loop-i.invariant.groups
    c.loop-i.invariant.held c.self.view_is refl refl c.reserve.ensures.items refl).1

pub returns-clause-prepared : goal.returns-clause-prepared
returns-clause-prepared c =
    let ws = c.args.writes.now in
    let all = all-placed c.loop-i.self.chains c.loop-i.self.pages ws (λ j lt. c.loop-i.invariant.prepared j (omega (arith, c.loop-i-test.false))) in
    record {
      chains = subst (λ (v : ChainsValue). AllByRecursion (λ (w : KeyWrite). ChainHasRoom (find_chain w.0 v.chains)) ws) (sym c.self.view_is) all.0;
      places = subst (λ (v : ChainsValue). HavePlaces v.pages v.chains ws) (sym c.self.view_is) all.1;
      listed = omega (arith, c.in_ok-reserve_list.ensures.made);
      groups = omega (arith, c.in_ok-reserve.ensures.ok);
    }
