use Rattle.event_loop.proofs.server.EventLoop.drive.Goals as goal
use Rattle.std.proofs.Common.{◌≤◌, ◌-◌, ◌∙◌, ap, subst, sym}
use Rattle.mio.specs.Events.{items}
use Rattle.sessions.specs.declared.events.TheConstants.{SESSIONS_MAX}
use Rattle.stream_driver.proofs.States.{leads_map, stands_after}
use Rattle.event_loop.proofs.Departing.{drives_serve}
use Rattle.event_loop.proofs.Entries.{driven_entries, ended_entries, ended_remain, polled_entries, polled_remain}
use Rattle.event_loop.proofs.Entries.{polled_sessions, remain_numbers, remain_sessions}
use Rattle.event_loop.proofs.Ordering.{places_after, polled_next, polled_places, polled_turned, remain_places}
use Rattle.event_loop.proofs.Ordering.{turns_taken}
use Rattle.event_loop.proofs.Ordering.{few_enough, wide_enough}
use Rattle.event_loop.proofs.Peers.{drives_use, drives_wait, ended_rested, leads_lack}
use Rattle.event_loop.proofs.TableBytes.{drives_bytes}
use Rattle.event_loop.proofs.Tables.{below_after}
use Rattle.event_loop.proofs.Widths.{unused_polled}
use Rattle.event_loop.specs.Order.{heavy_streams, unused_in, width_after}
use Rattle.event_loop.specs.Sockets.{CameShort}
use Rattle.event_loop.specs.Tables.{after_poll, slot_at}
use Rattle.event_loop.specs.declared.order.TheConstants.{WIDTH_MIN}
use Rattle.event_loop.specs.contracts.socket.SocketStream.TheImpl.{ghosts}

pub classes_of-classes-requires : goal.classes_of-classes-requires
classes_of-classes-requires g c =
    polled_places c.args.self.now.table.slots c.make_polled_ready.new.table.slots (items c.events.result.now) c.make_polled_ready.ensures
    c.args.self.now.places

pub drive_ready_then-requires : goal.drive_ready_then-requires
drive_ready_then-requires g c =
    polled_sessions c.args.self.now.table.slots c.take_turns-unused.new.table.slots (items c.events.result.now)
    (turns_taken c.args.self.now.hub c.next_turns-self.result c.args.self.now.table.slots c.take_turns-unused.new.table.slots (items c.events.result.now)
    (polled_turned c.args.self.now.hub c.args.self.now.turns c.next_turns-self.result c.args.self.now.table.slots c.make_polled_ready.new.table.slots
    (items c.events.result.now) c.make_polled_ready.ensures c.take_turns-unused.new.table.slots c.take_turns-unused.ensures.shares))
    c.args.self.now.hub c.args.self.now.sessions

pub invariant_of-self : goal.invariant_of-self
invariant_of-self g c =
    let old = c.args.self.now in
    let ready = c.take_turns-unused.new.table.slots in
    let driven = c.drive_ready_then.new.table.slots in
    let new = c.end_drives.new.table.slots in
    let later = c.drive_ready_then.new.hub in
    let events = items c.events.result.now in
    let turned = polled_turned old.hub old.turns c.next_turns-self.result old.table.slots c.make_polled_ready.new.table.slots events c.make_polled_ready.ensures
    ready c.take_turns-unused.ensures.shares in
    let turns = turns_taken old.hub c.next_turns-self.result old.table.slots ready events turned in
    let ended = c.end_drives.ensures.ended in
    record {
      room = old.room;
      stands = stands_after old.stands c.drive_ready_then.ensures.driven.leads;
      serving = drives_serve old.hub later old.table.slots new events old.turns c.next_turns-self.result
          (record {
            turn_of = polled_next old.hub old.turns c.next_turns-self.result old.table.slots c.make_polled_ready.new.table.slots events
                c.make_polled_ready.ensures c.next_turns-self.ensures.next;
            ready = ready;
            turned = turned;
            driven = driven;
            drives = rw c.writer.ensures at c.drive_ready_then.ensures.driven;
            appends = c.drive_ready_then.ensures.appends _;
            uses = drives_use ghosts.traffic CameShort ghosts.reports old.table.slots ready driven events turns old.rested c.drive_ready_then.ensures.waits
                (c.drive_ready_then.ensures.shares _);
            ended = rw c.device.ensures at ended;
          })
          old.sessions _ _ (rw c.device.ensures at c.end_drives.ensures.left) old.serving;
      sessions = remain_sessions later driven new (ended_remain driven new ghosts.reports ghosts.traffic _ ended) c.drive_ready_then.ensures.sessions;
      entries = ended_entries driven new ghosts.reports ghosts.traffic _ ended later
          (driven_entries old.hub later _ _ _ ready driven old.stands c.drive_ready_then.ensures.driven.leads
          (polled_entries old.table.slots ready events turns old.hub old.entries));
      numbers = remain_numbers old.next driven new (ended_remain driven new ghosts.reports ghosts.traffic _ ended)
          (below_after old.next ready driven (remain_numbers old.next old.table.slots ready (polled_remain old.table.slots ready events turns) old.numbers)
          c.drive_ready_then.ensures.numbers);
      places = remain_places driven new (ended_remain driven new ghosts.reports ghosts.traffic _ ended)
          (places_after ready driven c.drive_ready_then.ensures.numbers
          (remain_places old.table.slots ready (polled_remain old.table.slots ready events turns) old.places));
      peers = leads_lack old.hub later c.drive_ready_then.ensures.driven.leads old.table.slots new
          (drives_wait ghosts.traffic CameShort ghosts.reports old.table.slots ready driven new events turns
          (polled_sessions old.table.slots ready events turns old.hub old.sessions).own _ ended c.drive_ready_then.ensures.waits old.rested
          c.writer.result) old.peers;
      rested = ended_rested ghosts.reports ghosts.traffic _ driven new ended;
      next_place = c.next_turns-self.ensures.places.0;
      beside_place = c.next_turns-self.ensures.places.1;
      width = subst (λ n. (WIDTH_MIN ≤ n) × (n ≤ SESSIONS_MAX)) (sym c.next_turns-self.ensures.width) (
        wide_enough old.next_width old.width_next.0,
        few_enough old.next_width old.width_next.1,
      );
      width_next = (c.next_width-self.ensures.some, c.next_width-self.ensures.few);
    }

pub returns-clause-drives : goal.returns-clause-drives
returns-clause-drives g c =
    let old = c.args.self.now in
    let turned = polled_turned old.hub old.turns c.next_turns-self.result old.table.slots c.make_polled_ready.new.table.slots (items old.poller.events)
    (rw c.events.ensures at c.make_polled_ready.ensures) c.take_turns-unused.new.table.slots c.take_turns-unused.ensures.shares in (
      record {
        turn_of = polled_next old.hub old.turns c.next_turns-self.result old.table.slots c.make_polled_ready.new.table.slots (items old.poller.events)
            (rw c.events.ensures at c.make_polled_ready.ensures) c.next_turns-self.ensures.next;
        ready = c.take_turns-unused.new.table.slots;
        turned = turned;
        driven = c.drive_ready_then.new.table.slots;
        drives = rw c.writer.ensures at c.drive_ready_then.ensures.driven;
        appends = c.drive_ready_then.ensures.appends _;
        uses = drives_use ghosts.traffic CameShort ghosts.reports old.table.slots c.take_turns-unused.new.table.slots c.drive_ready_then.new.table.slots
            (items old.poller.events)
            (turns_taken old.hub c.next_turns-self.result old.table.slots c.take_turns-unused.new.table.slots (items old.poller.events) turned) old.rested
            c.drive_ready_then.ensures.waits (c.drive_ready_then.ensures.shares _);
        ended = rw c.device.ensures at c.end_drives.ensures.ended;
      },
      rw c.device.ensures at c.end_drives.ensures.left,
      record {
        width_is = c.next_turns-self.ensures.width;
        next_is = c.next_width-self.ensures.is
            ∙ ap (λ n. width_after old.next_width n c.saturating_sub-turned_out.result)
            (c.take_turns-unused.ensures.unused ∙ unused_polled old.hub c.next_turns-self.result old.table.slots c.make_polled_ready.new.table.slots
            (items old.poller.events) old.places (rw c.events.ensures at c.make_polled_ready.ensures))
            ∙ ap (width_after old.next_width (unused_in old.hub c.next_turns-self.result (λ key. after_poll (items old.poller.events) key
            (slot_at old.table.slots key)) SESSIONS_MAX))
            (c.saturating_sub-turned_out.ensures ∙ ap (λ n. n - c.heavy_streams-heavy_before.result) c.heavy_streams-heavy_after.ensures
            ∙ ap (λ n. heavy_streams c.drive_ready_then.new.table.slots - n) c.heavy_streams-heavy_before.ensures);
      },
    )

pub returns-clause-keeps : goal.returns-clause-keeps
returns-clause-keeps g c =
    let old = c.args.self.now in
    let ready = c.take_turns-unused.new.table.slots in
    let events = items c.events.result.now in
    let turns = turns_taken old.hub c.next_turns-self.result old.table.slots ready events
    (polled_turned old.hub old.turns c.next_turns-self.result old.table.slots c.make_polled_ready.new.table.slots events c.make_polled_ready.ensures
    ready c.take_turns-unused.ensures.shares) in
    let has_own = polled_sessions old.table.slots ready events turns old.hub old.sessions in
    leads_map old.hub c.drive_ready_then.new.hub _ _ c.drive_ready_then.ensures.driven.leads (λ h k stands d has.
    drives_bytes ghosts.reports ghosts.traffic _ old.table.slots ready c.drive_ready_then.new.table.slots c.end_drives.new.table.slots events turns has_own.own
    c.end_drives.ensures.ended c.writer.result h k d has)
