-- One run for all that ever left: what was answered in a run is answered in the one that goes on with it, through any number of turns.
use Rattle.std.proofs.Common.{◌≡◌, ℕ, Bool, true, false, List, refl, sym, ap, subst}
use Rattle.std.proofs.Math.Logic.{∥∥₁_map}
use Rattle.mio.specs.Events.{items}
use Rattle.model.proofs.Elements.{all-each}
use Rattle.sector.specs.declared.device.Sectors.{Ghosts}
use Rattle.sessions.proofs.Runs.{CountsNow, OnlyNow}
use Rattle.sessions.specs.FoundMaps.{LosesNothing}
use Rattle.sessions.specs.Restarts.{Served}
use Rattle.sessions.specs.StandsFor.{device}
use Rattle.sessions.specs.declared.hub.Hub.{Hub}
use Rattle.stream_driver.specs.Entries.{is_gone}
use Rattle.stream_driver.specs.Traffic.{Traffic}
use Rattle.stream_driver.specs.declared.buffered.BufferedStream.{BufferedStream}
use Rattle.stream_driver.specs.declared.entries.Entry.{Entry}
use Rattle.slab.specs.Slab.{Slab}
use Rattle.event_loop.proofs.Departing.{GoesOn, Slots, accepts_goes, all_kept, closed_goes, driven_goes, ends_report}
use Rattle.event_loop.proofs.Departing.{inner_reports, holds_map, last_sound, rests_goes, stands_now, turned_goes}
use Rattle.event_loop.proofs.WholeTurns.{they_speak}
use Rattle.event_loop.specs.AllThatLeft.{HaveOneRun, HoldsAtAllEnds, TurnsTo}
use Rattle.event_loop.specs.AllThatLeft.TurnsTo.{Fault, NoTurn, OneMore}
use Rattle.event_loop.specs.Departures.{HoldsAtEnds, IsExplained, Serving, StreamWasAnswered, present_state}
use Rattle.event_loop.specs.Lingerings.{Lingerers, lingers_in, unless_failed}
use Rattle.event_loop.specs.Sockets.{SocketsReport, socket_session, traffic_of}
use Rattle.event_loop.specs.Turns.{Accepted, IsTurn, accepts_now, is_reported_of}
use Rattle.event_loop.specs.declared.connections.Backlog.{Backlog}
use Rattle.event_loop.specs.declared.connections.Backlog.TheVariants.{Empty, More, Failed}
use Rattle.event_loop.specs.declared.connections.TheConstants.{LINGERER}
use Rattle.event_loop.specs.declared.lingering.Lingerer.{Lingerer}
use Rattle.event_loop.specs.declared.lingering.Lingering.{Lingering}
use Rattle.event_loop.specs.declared.server.EventLoop.{EventLoop}
use Rattle.event_loop.specs.declared.socket.Socket.{Socket}

module _ {D : Type 0} {g : Ghosts D} where
  stays : {hub : Hub D g} {slots : Slots} {lingerers : List Lingerer} (s : Serving hub slots lingerers) → GoesOn s.served hub slots lingerers
  stays s = record { now = s; was_answered = λ b n t e. e }

  then_on : {hub mid later : Hub D g} {served : Served hub} {slots new : Slots} {lingerers others : List Lingerer} (on : GoesOn served mid slots lingerers)
      → GoesOn on.now.served later new others → GoesOn served later new others
  then_on on more = record { now = more.now; was_answered = λ b n t e. more.was_answered b n t (on.was_answered b n t e) }

  same_on : {hub mid later : Hub D g} {served : Served hub} {slots new : Slots} {lingerers others : List Lingerer} → later ≡ mid → new ≡ slots
      → others ≡ lingerers → GoesOn served mid slots lingerers → GoesOn served later new others
  same_on {hub} {mid} {later} {served} {slots} {new} {lingerers} {others} same_hub same_slots same_lingerers on =
      subst (λ (h : Hub D g). GoesOn served h new others) (sym same_hub)
      (subst (λ (x : Slots). GoesOn served mid x others) (sym same_slots)
      (subst (λ (l : List Lingerer). GoesOn served mid slots l) (sym same_lingerers) on))

  same_table : (old new : EventLoop D g) → new.table ≡ old.table → new.table.slots ≡ old.table.slots
  same_table old new same = ap (λ (table : Slab (Entry (BufferedStream Socket))). table.slots) same

  same_lingerers : (old new : EventLoop D g) → new.lingering ≡ old.lingering → new.lingering.queue.items ≡ old.lingering.queue.items
  same_lingerers old new same = ap (λ (l : Lingering). l.queue.items) same

  -- ---- the parts of a turn

  accepted_on : (driven accepted : EventLoop D g) (accepts : Bool) → Accepted accepts driven accepted → (lingerers : List Lingerer)
      → (s : Serving driven.hub driven.table.slots lingerers) → GoesOn s.served accepted.hub accepted.table.slots lingerers
  accepted_on driven accepted true accepts lingerers s =
      accepts_goes driven.hub accepted.hub driven.next accepted.next accepts.came driven.refused accepted.refused driven.table.slots
      accepted.table.slots lingerers
      (record { stands = driven.stands; sessions = driven.sessions; numbers = driven.numbers; entries = driven.entries }) accepts.became s
  accepted_on driven accepted false same lingerers s = same_on same.hub (same_table driven accepted same.table) refl (stays s)

  closed_if : (backlog : Backlog) (hub : Hub D g) (slots : Slots) (old : Lingerers) (s : Serving hub slots old.all)
      → GoesOn s.served hub slots (unless_failed backlog old).all
  closed_if Empty hub slots old s = stays s
  closed_if More hub slots old s = stays s
  closed_if Failed hub slots old s = closed_goes hub slots old.all s

  -- ---- a turn

  module _ (old new : EventLoop D g) (turn : IsTurn SocketsReport traffic_of old new) (s : Serving old.hub old.table.slots old.lingering.queue.items) where
    abbrev driven : GoesOn s.served turn.driven.hub turn.driven.table.slots turn.linger.begun.all
    driven =
        driven_goes old.hub turn.driven.hub old.table.slots turn.driven.table.slots (items new.poller.events) old.turns turn.driven.turns turn.drives
        old.sessions (lingers_in old.lingering) turn.linger.begun turn.linger.left s

    rest_on : GoesOn driven.now.served new.hub new.table.slots new.lingering.queue.items
    rest_on =
        let turned = turned_goes turn.driven.hub turn.driven.table.slots (is_reported_of LINGERER (items new.poller.events)) turn.linger.begun
        (lingers_in turn.driven.lingering) turn.linger.turned driven.now in
        let came = then_on turned (accepted_on turn.driven turn.accepted (accepts_now old.backlog (items new.poller.events)) turn.accepts
        turn.driven.lingering.queue.items turned.now) in
        let kept = then_on came (closed_if turn.accepted.backlog turn.accepted.hub turn.accepted.table.slots (lingers_in turn.driven.lingering) came.now) in
        let lingering = same_on refl refl (ap (λ (l : Lingerers). l.all) turn.lingerers_are) kept in
        let rests = then_on lingering (rests_goes turn.accepted.hub new.hub turn.rests.hub turn.accepted.table.slots
        turn.accepted.lingering.queue.items lingering.now) in
        same_on refl (same_table turn.accepted new turn.rests.table) (same_lingerers turn.accepted new turn.rests.lingering) rests

    turn_on : GoesOn s.served new.hub new.table.slots new.lingering.queue.items
    turn_on = then_on driven rest_on

    ends_on : SocketsReport
        → HoldsAtEnds (StreamWasAnswered turn_on.now.served)
        (g.moment (device turn.driven.hub)) turn.drives.driven old.lingering.queue.items turn.linger.begun.all
    unfolding turn_on then_on
    ends_on t =
        holds_map (StreamWasAnswered driven.now.served)
        (StreamWasAnswered rest_on.now.served) rest_on.was_answered (g.moment (device turn.driven.hub)) turn.drives.driven
        old.lingering.queue.items turn.linger.begun.all
        (ends_report old.hub turn.driven.hub old.table.slots turn.driven.table.slots (items new.poller.events) old.turns turn.driven.turns turn.drives
        old.sessions (lingers_in old.lingering) turn.linger.begun turn.linger.left s t)

  -- ---- any number of turns

  all_ends : (P Q : Bool → ℕ → Traffic → Type 0) → ((b : Bool) (s : ℕ) (t : Traffic) → P b s t → Q b s t) → {first last : EventLoop D g}
      (turns : TurnsTo first last)
      → HoldsAtAllEnds P turns → HoldsAtAllEnds Q turns
  all_ends P Q f NoTurn x = tt
  all_ends P Q f (OneMore old new since turn) x = (
    all_ends P Q f since x.0,
    holds_map P Q f (g.moment (device turn.driven.hub)) turn.drives.driven old.lingering.queue.items turn.linger.begun.all x.1,
  )
  all_ends P Q f (Fault old new since same) x = all_ends P Q f since x

  all_turns : SocketsReport → {first last : EventLoop D g} (turns : TurnsTo first last) → Serving first.hub first.table.slots first.lingering.queue.items
      → (s : Serving last.hub last.table.slots last.lingering.queue.items) × HoldsAtAllEnds (StreamWasAnswered s.served) turns
  all_turns t NoTurn s = (s, tt)
  all_turns t (OneMore old new since turn) s =
      let so_far = all_turns t since s in
      let on = turn_on old new turn so_far.0 in
      (on.now, (all_ends (StreamWasAnswered so_far.0.served) (StreamWasAnswered on.now.served) on.was_answered since so_far.1, ends_on old new turn so_far.0 t))
  all_turns t (Fault old new since same) s =
      let so_far = all_turns t since s in
      let on = same_on same.hub (same_table old new same.table) (same_lingerers old new same.lingering) (stays so_far.0) in
      (on.now, all_ends (StreamWasAnswered so_far.0.served) (StreamWasAnswered on.now.served) on.was_answered since so_far.1)

  pub have_one_run : (first : EventLoop D g) → LosesNothing first.hub → OnlyNow D g → CountsNow D g → SocketsReport → HaveOneRun first
  have_one_run first crash only_now counts_now t last turns = ∥∥₁_map first.serving (λ s.
      let whole = all_turns t turns s in
      let now = whole.0 in
      let h = present_state now.served in
      let lawful = (last_sound now.served.first last.hub now.served.choices now.served.ran).lawful h (stands_now now.served) in
      let kept = all_kept last.hub last.table.slots last.lingering.queue.items last.serving crash only_now counts_now now.served in
      let explained : (b : Bool) (n : ℕ) (u : Traffic) → StreamWasAnswered now.served b n u → IsExplained now.served b n u =
      λ b n u was_answered. record { kept = kept n u.departed was_answered.was_answered; requested = was_answered.requested } in (
        now.served,
        record {
          stands = stands_now now.served;
          lawful = lawful;
          speak = they_speak h last.table.slots lawful now.bytes t;
          entries = λ key entry e. (
              let was_answered = inner_reports now.served (is_gone entry.state) entry.session entry.stream (now.reports t key entry e) in
              (was_answered.number, explained (is_gone entry.state) entry.session (traffic_of entry.stream.inner) was_answered)
              );
          linger = all-each _ _ last.lingering.queue.items (λ l was_answered. explained true (socket_session l.socket) (traffic_of l.socket) was_answered)
              (now.lingerers_report t);
          ended = all_ends (StreamWasAnswered now.served) (IsExplained now.served) explained turns whole.1;
        },
      ))
