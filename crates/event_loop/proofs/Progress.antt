-- A session that is driven gets on.
use Rattle.std.proofs.Common.{◌≡◌, ◌≢◌, inl, inr, ℕ, zero, suc, ◌==◌, ◌||◌, Bool, true, false, List, [], ◌∷◌}
use Rattle.std.proofs.Common.{Option, Some, None, refl, sym, ap, subst, ◌∙◌, arith}
use Rattle.std.proofs.Math.Bool.{Bool-set}
use Rattle.std.proofs.Math.Logic.{∥∥₁_elim}
use Rattle.std.proofs.lemmas.Bool.{cases_Bool}
use Rattle.mio.specs.Event.{event_token, is_priority, is_read_closed}
use Rattle.mio.specs.Events.{items}
use Rattle.mio.specs.declared.event.event.Event.{Event}
use Rattle.model.proofs.Lookups.{some_same}
use Rattle.sector.specs.declared.device.Sectors.{Ghosts}
use Rattle.sessions.specs.SessionStreams.{HubState, stream_of}
use Rattle.sessions.specs.StandsFor.{StandsFor}
use Rattle.socket_calls.specs.OpenFacts.{BecameReady}
use Rattle.stream_driver.proofs.States.{at_point, point_of}
use Rattle.stream_driver.specs.Buffers.{traffic_through}
use Rattle.stream_driver.specs.Calls.{served_in}
use Rattle.stream_driver.specs.Drives.{Why}
use Rattle.stream_driver.specs.Entries.{DrivenAll, DrivenEntry, DrivenIn, DrivenOnce, DrivenThen, entry_state_after}
use Rattle.stream_driver.specs.Entries.{with_last}
use Rattle.stream_driver.specs.Sessions.{AwaitsMore, Point}
use Rattle.stream_driver.specs.Traffic.{Traffic}
use Rattle.stream_driver.specs.declared.answers.Progress.{Progress}
use Rattle.stream_driver.specs.declared.answers.Progress.TheVariants.{Again}
use Rattle.stream_driver.specs.declared.buffered.BufferedStream.{BufferedStream}
use Rattle.stream_driver.specs.declared.entries.Entry.{Entry}
use Rattle.stream_driver.specs.declared.entries.EntryState.{EntryState}
use Rattle.stream_driver.specs.declared.entries.EntryState.TheVariants.{Idle, Ready, Gone}
use Rattle.event_loop.proofs.Entries.{no_entry, polled_sessions}
use Rattle.event_loop.proofs.LastDriven.{IsPlaced, own_place, place_of, slot_placed, then_length}
use Rattle.event_loop.proofs.Ordering.{turns_taken}
use Rattle.event_loop.proofs.Peers.{awaits_same, idle_as}
use Rattle.event_loop.proofs.Slots.{Slots}
use Rattle.event_loop.proofs.TableBytes.{AreOwn, all_other, slot_other}
use Rattle.event_loop.specs.Order.{is_ready_slot, writer_of}
use Rattle.event_loop.specs.Progress.{CameFar, GetsOn, HadItsShare, UsesTurn}
use Rattle.event_loop.specs.Sockets.{SocketsReport}
use Rattle.event_loop.specs.Tables.{after_event, after_poll, is_ready, readied, reported_slot, slot_at}
use Rattle.event_loop.specs.Turns.{IsTurn, PollReports, is_reported_of}
use Rattle.event_loop.specs.declared.server.EventLoop.{EventLoop}
use Rattle.event_loop.specs.declared.socket.Socket.{Socket}

-- ---- what the poll reports

alive_readied : (state : EntryState) → state ≢ Gone → is_ready (readied state) ≡ true
alive_readied Idle alive = refl
alive_readied Ready alive = refl
alive_readied Gone alive = absurd (alive refl)

ready_readied : (state : EntryState) → is_ready state ≡ true → is_ready (readied state) ≡ true
ready_readied Ready ready = refl
ready_readied Idle ready = absurd (cc)
ready_readied Gone ready = absurd (cc)

module _ {T : Type 0} where
  -- who is ready stays so
  event_ready : (b on : Bool) (slot : Option (Entry (BufferedStream T))) → is_ready_slot slot ≡ true → is_ready_slot (reported_slot b on slot) ≡ true
  event_ready true on (Some entry) ready = ready_readied entry.state ready
  event_ready true on None ready = ready
  event_ready false on slot ready = ready

  poll_ready : (events : List Event) (key : ℕ) (slot : Option (Entry (BufferedStream T))) → is_ready_slot slot ≡ true
      → is_ready_slot (after_poll events key slot) ≡ true
  poll_ready [] key slot ready = ready
  poll_ready (event ∷ events) key slot ready =
      poll_ready events key (after_event event key slot)
      (event_ready ((event_token event).0 == key) (is_priority event || is_read_closed event) slot ready)

  -- who is reported is ready, unless it is gone
  becomes_ready : (events : List Event) (key : ℕ) (entry : Entry (BufferedStream T)) → entry.state ≢ Gone
      → is_reported_of (record { 0 = key }) events ≡ true → is_ready_slot (after_poll events key (Some entry)) ≡ true
  becomes_ready [] key entry alive found = absurd (cc)
  becomes_ready (event ∷ events) key entry alive found =
      let on = is_priority event || is_read_closed event in
      elim (cases_Bool ((event_token event).0 == key)) [
        | inl named ↦ subst (λ b. is_ready_slot (after_poll events key (reported_slot b on (Some entry))) ≡ true) (sym named)
            (poll_ready events key (reported_slot true on (Some entry)) (alive_readied entry.state alive))
        | inr another ↦ subst (λ b. is_ready_slot (after_poll events key (reported_slot b on (Some entry))) ≡ true) (sym another)
            (becomes_ready events key entry alive (sym (ap (λ b. b || is_reported_of (record { 0 = key }) events) another) ∙ found))
      ]

pub each_becomes_ready : {D : Type 0} {g : Ghosts D} (reports : Type 0) (traffic : Socket → Traffic) → SocketsReport → PollReports
    → (old new : EventLoop D g) → IsTurn reports traffic old new → (key : ℕ) (entry : Entry (BufferedStream Socket))
    → slot_at old.table.slots key ≡ Some entry → entry.state ≢ Gone → BecameReady old.poller.poll entry.stream.inner.socket
    → is_ready_slot (after_poll (items new.poller.events) key (slot_at old.table.slots key)) ≡ true
each_becomes_ready reports traffic sockets polls old new turn key entry is alive ready =
    ∥∥₁_elim old.serving (hlevel Bool-set) (λ w. ∥∥₁_elim (old.places key entry is).registered (hlevel Bool-set) (λ first.
    let number = (w.reports sockets key entry is).number in
    let found = polls.reports old.poller.poll (items new.poller.events) first.0 entry.stream.inner.socket (record { 0 = key }) turn.reported first.2
    (first.1 ∙ sym number) ready in
    subst (λ slot. is_ready_slot (after_poll (items new.poller.events) key slot) ≡ true) (sym is)
    (becomes_ready (items new.poller.events) key entry alive found)))

-- ---- one drive among those of a table

module _ {T : Type 0} (reports : Type 0) (traffic : T → Traffic) where
  -- the entry was driven between two points, before and after which its session stands as at the ends
  abbrev OneDrive : Point → Point → Slots T → ℕ → Entry T → Type 0
  OneDrive earlier later new key was =
      (entry : Entry T) × (slot_at new key ≡ Some entry) × (first : Point) × (last : Point) × DrivenEntry reports traffic first was last entry
      × (stream_of first.hub was.session ≡ stream_of earlier.hub was.session) × (stream_of last.hub was.session ≡ stream_of later.hub was.session)

  one_drive : (earlier : Point) (slots : Slots T) (later : Point) (new : Slots T) → DrivenAll reports traffic earlier slots later new → (key : ℕ)
      (was : Entry T) → slot_at slots key ≡ Some was
      → ((other : ℕ) (another : Entry T) → slot_at slots other ≡ Some another → another.state ≢ Gone → was.session ≡ another.session → key ≡ other)
      → OneDrive earlier later new key was
  one_drive earlier [] later new d key was e own = absurd (no_entry [] refl key was e)
  one_drive earlier (None ∷ slots) later new (first, mid, others, is, d, rest) zero was e own = absurd (let bad : None ≡ Some was = e in cc)
  one_drive earlier (Some old ∷ slots) later new (first, mid, others, is, d, rest) zero was e own = (
    d.0,
    ap (λ l. slot_at l zero) is ∙ d.1,
    earlier,
    mid,
    subst (λ (x : Entry T). DrivenEntry reports traffic earlier x mid d.0) (some_same e) d.2,
    refl,
    sym (all_other reports traffic mid slots later others rest was.session
        (λ other another g too same. (let bad : zero ≡ suc other = own (suc other) another g too same in omega arith))),
  )
  one_drive earlier (slot ∷ slots) later new (first, mid, others, is, d, rest) (suc key) was e own =
      let there = one_drive mid slots later others rest key was e
      (λ other another g too same. (let up : suc key ≡ suc other = own (suc other) another g too same in omega arith)) in
      let before = slot_other reports traffic earlier slot mid first d was.session
      (λ another g too same. (let bad : suc key ≡ zero = own zero another g too same in omega arith)) in (
        there.0,
        ap (λ l. slot_at l (suc key)) is ∙ there.1,
        there.2,
        there.3,
        there.4,
        there.5 ∙ before,
        there.6,
      )

  -- so it is where one is driven last
  then_drive : (last : ℕ) (earlier : Point) (slots : Slots T) (later : Point) (new : Slots T) → DrivenThen reports traffic last earlier slots later new
      → (key : ℕ) (was : Entry T) → slot_at slots key ≡ Some was
      → ((other : ℕ) (another : Entry T) → slot_at slots other ≡ Some another → another.state ≢ Gone → was.session ≡ another.session → key ≡ other)
      → OneDrive earlier later new key was
  then_drive last earlier slots later new d key was e own =
      let p = place_of last slots key was e in
      let now = subst (λ n. IsPlaced last n key p.0) (sym (then_length reports traffic last earlier slots later new d)) p.1 in
      let one = one_drive earlier (with_last last slots) later (with_last last new) d p.0 was (slot_placed last slots key p.0 p.1 ∙ e)
      (λ other another g too same. own_place (λ (x : Entry T). (x.state ≢ Gone) × (was.session ≡ x.session)) last slots key p.0 p.1
      (λ k x h q. own k x h q.0 q.1) other another g (too, same)) in
      (one.0, sym (slot_placed last new key p.0 now) ∙ one.1, one.2, one.3, one.4, one.5, one.6)

  again_served : (s : ℕ) (last : HubState) (before after : Traffic) (served : ℕ) (answer : Progress) → entry_state_after answer ≡ Ready
      → Why s last before after served answer → served ≡ 64
  again_served s last before after served Again e why = why.1
  again_served s last before after served _ e why = absurd (cc)

  driven_ready : (first : Point) (was : Entry T) (last : Point) (entry : Entry T) → was.state ≡ Ready → DrivenEntry reports traffic first was last entry
      → DrivenOnce reports traffic first was last entry
  driven_ready first was last entry ready drive = subst (λ s. DrivenIn reports traffic s first was last entry) ready drive

-- ---- how far it came

module _ {T : Type 0} (reports : Type 0) (traffic : T → Traffic) (was entry : Entry (BufferedStream T)) (ready : was.state ≡ Ready) (uses : UsesTurn reports
    traffic was entry) where
  had_share : entry.stream.share ≡ 0 → HadItsShare reports traffic was entry
  had_share none = elim (uses.uses ready) [
    | inl (bytes, spends) ↦
        let left = spends.takes.left in
        let all : bytes ≡ was.stream.share = omega (arith, none, left) in
        inl (record { some = uses.some ready; sent = λ r. (let sent = spends.sent r in omega (arith, sent, all)) })
    | inr ended ↦ inr ended
  ]

  module _ (first last : Point) (drive : DrivenOnce reports (traffic_through traffic) first was last entry) (k : HubState) (ends : stream_of last.hub
      was.session ≡ stream_of k was.session) where
    came_far : (state : EntryState) → entry.state ≡ state → CameFar reports traffic was entry k (served_in drive.drove.carried) state
    came_far Ready is =
        again_served reports (traffic_through traffic) was.session drive.drove.last.hub (traffic_through traffic was.stream)
        (traffic_through traffic entry.stream) (served_in drive.drove.carried) drive.answer (sym drive.state ∙ is) drive.drove.why
    came_far Gone is = tt
    came_far Idle is =
        let stays : stream_of k entry.session ≡ stream_of last.hub entry.session =
        ap (stream_of k) drive.session ∙ sym ends ∙ ap (stream_of last.hub) (sym drive.session) in
        elim (idle_as was.session drive.drove.last last (traffic_through traffic was.stream) (traffic_through traffic entry.stream)
        (served_in drive.drove.carried) drive.answer (sym drive.state ∙ is) drive.drove.ends drive.drove.why) [
          | inl why ↦ elim (uses.blocked ready is why.0) [
            | inl none ↦ inr (inr (none, had_share none))
            | inr blocked ↦ inr (inl blocked)
          ]
          | inr why ↦ inl (awaits_same last.hub k entry.session stays (subst (λ s. AwaitsMore last.hub s) (sym drive.session) why.1))
        ]

-- ---- the drives of a turn

module _ {D : Type 0} {g : Ghosts D} (reports : Type 0) (traffic : Socket → Traffic) (old new : EventLoop D g) (turn : IsTurn reports traffic old new)
    (h : HubState) (stands : StandsFor old.hub h) where
  own : AreOwn turn.drives.ready
  own =
      (polled_sessions old.table.slots turn.drives.ready (items new.poller.events)
      (turns_taken old.hub turn.driven.turns old.table.slots turn.drives.ready (items new.poller.events) turn.drives.turned) old.hub old.sessions).own

  pub each_gets_on : (k : HubState) × StandsFor turn.driven.hub k
      × ((key : ℕ) (was : Entry (BufferedStream Socket)) → slot_at turn.drives.ready key ≡ Some was → was.state ≡ Ready
      → GetsOn reports traffic h k key was turn.drives.driven)
  each_gets_on =
      let to = turn.drives.drives.leads.to (point_of old.hub h) (at_point old.hub h stands) in (
        to.0.hub,
        to.1.state,
        λ key was e ready.
            let alive : was.state ≢ Gone = λ gone. (let bad : Ready ≡ Gone = sym ready ∙ gone in cc) in
            let one = then_drive reports (traffic_through traffic) (writer_of turn.driven.turns) (point_of old.hub h) turn.drives.ready to.0 turn.drives.driven
            to.2.1 key was e
            (λ other another g too same. own key other was another e g alive too same) in
            let drive = driven_ready reports (traffic_through traffic) one.2 was one.3 one.0 ready one.4 in
            let uses = turn.drives.uses key was one.0 e one.1 in
            record {
              entry = one.0;
              entry_is = one.1;
              first = one.2;
              last = one.3;
              begins = one.5;
              drive = drive;
              ends = one.6;
              far = came_far reports traffic was one.0 ready uses one.2 one.3 drive to.0.hub one.6 one.0.state refl;
            },
      )
