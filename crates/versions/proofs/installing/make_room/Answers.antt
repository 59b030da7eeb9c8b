use Rattle.versions.proofs.installing.make_room.Goals as goal
use Rattle.std.proofs.Common.{arith, sym, subst, ◌∙◌}
use Rattle.std.proofs.lemmas.List.Sums.{prefix_len-le-length}
use Rattle.std.proofs.lemmas.Result.{on_ok_weaker}
use Rattle.model.specs.Map.{KeyWrite}
use Rattle.sorted_pages.specs.Pages.{entries, is_together, room_at}
use Rattle.versions.proofs.Pages.{held-itself}
use Rattle.versions.proofs.Stores.{count-apart, on_ok, place-any, place-changed, roomier-changed, roomier-refl}
use Rattle.versions.specs.Chains.{AreRoomier, count_together, find_chain}

pub returns-in-Ok-clause-roomier : goal.returns-in-Ok-clause-roomier
returns-in-Ok-clause-roomier c =
    let d = c.reserve_value.ensures.changed in
    record {
      chains = roomier-changed c.args.key.bytes.now c.args.chains.now.pages c.reserve_value.new.self.pages c.requires d;
      rooms = λ q. omega (arith, d.rooms q);
      apart = λ j k t. sym (d.together j k) ∙ t;
      held = c.reserve_value.ensures.held;
    }

pub returns-in-Ok-clause-place : goal.returns-in-Ok-clause-place
returns-in-Ok-clause-place c =
    let k = c.args.key.bytes.now in
    let qs = c.reserve_value.new.self.pages in
    on_ok c.reserve_value.result _
    (place-changed k (count_together k qs c.args.writes.now) c.args.chains.now.pages qs c.reserve_value.ensures.changed)

pub returns-then-writes-room_in-clause-roomier : goal.returns-then-writes-room_in-clause-roomier
returns-then-writes-room_in-clause-roomier c = record {
  chains = roomier-refl (entries c.args.chains.now.pages);
  rooms = λ q. omega arith;
  apart = λ j k t. t;
  held = held-itself c.args.chains.now;
}

pub returns-then-writes-room_in-clause-place : goal.returns-then-writes-room_in-clause-place
returns-then-writes-room_in-clause-place c =
    let k = c.args.key.bytes.now in
    let ps = c.args.chains.now.pages in
    let ws = c.args.writes.now in
    let room = c.room_in.ensures k c.in-Err.ensures.absent in
    let few = prefix_len-le-length (λ (w : KeyWrite). is_together k w.0 ps) ws in
    place-any (count_together k ps ws) (room_at k ps) (find_chain k (entries ps)) (omega (arith, room, few))

pub returns-else-writes-room_in-clause-roomier : goal.returns-else-writes-room_in-clause-roomier
returns-else-writes-room_in-clause-roomier c =
    let r = c.reserve.ensures.room.roomier in
    record {
      chains = subst (AreRoomier (entries c.args.chains.now.pages)) (sym r.entries) (roomier-refl (entries c.args.chains.now.pages));
      rooms = r.rooms;
      apart = r.apart;
      held = c.reserve.ensures.room.held;
    }

pub returns-else-writes-room_in-clause-place : goal.returns-else-writes-room_in-clause-place
returns-else-writes-room_in-clause-place c =
    let k = c.args.key.bytes.now in
    let ps = c.args.chains.now.pages in
    let qs = c.reserve.new.self.pages in
    let n = c.count_beside-n.ensures k c.in-Err.ensures.absent in
    let fewer = count-apart k ps qs c.args.writes.now c.reserve.ensures.room.roomier.apart in
    on_ok_weaker c.reserve.result
    (λ made. place-any (count_together k qs c.args.writes.now) (room_at k qs) (find_chain k (entries qs)) (omega (arith, made, n, fewer)))
    c.reserve.ensures.made
