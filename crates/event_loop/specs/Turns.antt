-- What one turn of the loop does to its hub and its table.
use Rattle.std.specs.List.{list_any}
use Rattle.std.specs.Prelude.{◌≡◌, ◌≢◌, ◌==◌, ◌||◌, ◌⊎◌, ℕ, ◌+◌, ◌-◌, ◌/◌, ◌<◌, ◌≤◌, Bool, true, false, List, []}
use Rattle.std.specs.Prelude.{Option, Some, Result}
use Rattle.std.specs.declared.io.Error.{Error}
use Rattle.std.specs.declared.time.Duration.{Duration}
use Rattle.mio.specs.Event.{event_token}
use Rattle.mio.specs.Events.{items, capacity as events_capacity}
use Rattle.mio.specs.declared.event.event.Event.{Event}
use Rattle.mio.specs.declared.token.Token.{Token}
use Rattle.sector.specs.declared.device.Sectors.{Ghosts}
use Rattle.sessions.specs.Laws.{CollectsStep, HasRun, Ran}
use Rattle.sessions.specs.SessionStreams.{HubEvent, HubState, Choice}
use Rattle.sessions.specs.StandsFor.{StandsFor, device}
use Rattle.sessions.specs.declared.events.TheConstants.{SESSIONS_MAX}
use Rattle.sessions.specs.declared.hub.Hub.{Hub}
use Rattle.socket_calls.specs.HappenedCalls.{WasRegistered, WasReported}
use Rattle.socket_calls.specs.OpenFacts.{BecameReady}
use Rattle.socket_calls.specs.declared.counted.CountedSocket.{CountedSocket}
use Rattle.socket_calls.specs.declared.polled.CountedPoll.{CountedPoll}
use Rattle.stream_driver.specs.Appends.{AppendsAtMost, ready_count}
use Rattle.stream_driver.specs.Buffers.{traffic_through}
use Rattle.stream_driver.specs.Entries.{DrivenThen}
use Rattle.stream_driver.specs.Sends.{DrivesAnswering}
use Rattle.stream_driver.specs.Sessions.{Adds, RunLeads, Point}
use Rattle.stream_driver.specs.Traffic.{Traffic}
use Rattle.stream_driver.specs.Waits.{EachEntry}
use Rattle.stream_driver.specs.declared.buffered.BufferedStream.{BufferedStream}
use Rattle.stream_driver.specs.declared.entries.Entry.{Entry}
use Rattle.stream_driver.specs.declared.entries.EntryState.TheVariants.{Gone, Ready}
use Rattle.event_loop.specs.Accepts.{Accepts, AsksOnce}
use Rattle.event_loop.specs.Leavings.{EndAll, LingerOn}
use Rattle.event_loop.specs.Lingerings.{lingers_in, unless_failed}
use Rattle.event_loop.specs.Order.{AreNext, after_turn, behind, heavy_streams, is_ready_slot, share_at, takes_none}
use Rattle.event_loop.specs.Order.{takes_turns, unused_in, width_after, writer_of, writes_in}
use Rattle.event_loop.specs.Progress.{GetsOn, UsesTurn}
use Rattle.event_loop.specs.Polls.{WasAskedOnce, after_wait, polls_of}
use Rattle.event_loop.specs.Sockets.{IsNewSocket, SocketsReport, all_interests}
use Rattle.event_loop.specs.Tables.{AcceptsInto, EndsTurn, after_poll, is_any_ready, joins_of, slot_at}
use Rattle.event_loop.specs.Waits.{nanos_of, own_limit, shorter}
use Rattle.event_loop.specs.declared.connections.Backlog.{Backlog}
use Rattle.event_loop.specs.declared.connections.Backlog.TheVariants.{Empty, More, Failed}
use Rattle.event_loop.specs.declared.connections.TheConstants.{LINGERER}
use Rattle.event_loop.specs.declared.lingering.TheConstants.{LINGERING_MAX}
use Rattle.event_loop.specs.declared.listener.Port.{Port}
use Rattle.event_loop.specs.declared.order.TheConstants.{WIDTH_PARTS}
use Rattle.event_loop.specs.declared.order.Turns.{Turns}
use Rattle.event_loop.specs.declared.server.EventLoop.{EventLoop}
use Rattle.event_loop.specs.declared.server.TheConstants.{LISTENER}
use Rattle.event_loop.specs.declared.socket.Socket.{Socket}

-- a slot is ready as the poll reported, with its share of the turn, unless it takes turns and this is another's, or
-- takes none and as many others do as the turn is wide
abbrev pub IsTurnOf : {T D : Type 0} {g : Ghosts D} → Hub D g → Turns → (polled : ℕ
    → Option (Entry (BufferedStream T))) → ℕ → (ready : Option (Entry (BufferedStream T))) → Type 0
IsTurnOf hub turns polled key ready =
    ready ≡ after_turn (writes_in hub (polled key)) (share_at hub turns polled key) (polled key)

-- The drives of a turn in which the poll reported these events. The entries that waited and that it reported became
-- ready. Of those that are ready and take turns, one that writes and one that reads at most have this one. Of those
-- that take none as many as the turn is wide have a share of it, and of those that are late one less; the others are
-- passed over. Each that has a share was driven once, by rising key, but the one that writes behind the others; and no
-- other event came to the hub. Each of these drives appended one record to the log at most, and used its share of the
-- turn. What their streams buffered was written, and those that are over were taken out.
pub record DrivesReady {T D : Type 0} {g : Ghosts D} (reports : Type 0) (traffic : T
    → Traffic) (events : List Event) (last : Turns) (hub : Hub D g) (slots : List (Option (Entry (BufferedStream T))))
    (next : Turns) (later : Hub D g) (new : List (Option (Entry (BufferedStream T)))) : Type 0 where
  pub turn_of : AreNext hub (λ key. after_poll events key (slot_at slots key)) last next
  pub ready : List (Option (Entry (BufferedStream T)))
  pub turned : (key : ℕ) → IsTurnOf hub next (λ other. after_poll events other (slot_at slots other)) key
      (slot_at ready key)
  pub driven : List (Option (Entry (BufferedStream T)))
  pub drives : DrivesAnswering (traffic_through traffic) reports hub ready later driven
      (λ h k. DrivenThen reports (traffic_through traffic) (writer_of next) h ready k driven)
  pub appends : AppendsAtMost (ready_count ready) hub later
  pub uses : EachEntry (UsesTurn reports traffic) ready driven
  pub ended : (key : ℕ) → EndsTurn reports traffic (g.moment (device later)) (slot_at driven key) (slot_at new key)

-- what the listener has answered so far
abbrev pub answers_of : Port → Accepts
answers_of port =
    record { asked = port.listener.accepts; accepted = port.accepted; blocked = port.blocked; failed = port.failed }

-- the hub, the table, the number of the next session, the listener, those that linger and the refusals are as they
-- were, and so is whether garbage is known to be left and who had the last turns
pub record IsUntouched {D : Type 0} {g : Ghosts D} (old new : EventLoop D g) : Type 0 where
  pub hub : new.hub ≡ old.hub
  pub table : new.table ≡ old.table
  pub next : new.next ≡ old.next
  pub port : new.port ≡ old.port
  pub backlog : new.backlog ≡ old.backlog
  pub has_garbage : new.has_garbage ≡ old.has_garbage
  pub lingering : new.lingering ≡ old.lingering
  pub refused : new.refused ≡ old.refused
  pub turns : new.turns ≡ old.turns
  pub next_width : new.next_width ≡ old.next_width

-- no event came to the hub; and but for it and for whether garbage is left all is as it was
pub record Rests {D : Type 0} {g : Ghosts D} (old new : EventLoop D g) : Type 0 where
  pub hub : Ran old.hub new.hub []
  pub table : new.table ≡ old.table
  pub next : new.next ≡ old.next
  pub port : new.port ≡ old.port
  pub backlog : new.backlog ≡ old.backlog
  pub lingering : new.lingering ≡ old.lingering
  pub refused : new.refused ≡ old.refused

-- where a turn accepts, each connection that it accepted was let in or turned away, and no other event came to the hub
abbrev pub Accepted : {D : Type 0} {g : Ghosts D} → Bool → EventLoop D g → EventLoop D g → Type 0
Accepted true old new =
    AcceptsInto IsNewSocket AsksOnce answers_of old.hub old.next old.table.slots old.refused old.port new.backlog
    new.hub new.next new.table.slots new.refused new.port
Accepted false old new = IsUntouched old new

-- what happened to the hub as it accepted
abbrev pub accepted_joins : {D : Type 0} {g : Ghosts D} (accepts : Bool) (old new : EventLoop D g)
    → Accepted accepts old new → List (HubEvent × Choice)
accepted_joins true old new accepted = joins_of accepted.became.0
accepted_joins false old new untouched = []

-- Of those that take no turns as many may be driven as the turn before has left. By how many more it might have driven,
-- and how many streams turned out heavy in it, the next is as wide.
pub record SetsWidth {D : Type 0} {g : Ghosts D} (old new : EventLoop D g) (events : List Event)
    (ready driven : List (Option (Entry (BufferedStream Socket)))) : Type 0 where
  pub width_is : new.turns.width ≡ old.next_width / WIDTH_PARTS
  pub next_is : new.next_width ≡ width_after old.next_width
      (unused_in old.hub new.turns (λ key. after_poll events key (slot_at old.table.slots key)) SESSIONS_MAX)
      (heavy_streams driven - heavy_streams ready)

-- whose turn it was, how wide the next is, and what the last poll reported
pub record KeepsTurns {D : Type 0} {g : Ghosts D} (old new : EventLoop D g) : Type 0 where
  pub turns : new.turns ≡ old.turns
  pub next_width : new.next_width ≡ old.next_width
  pub poller : new.poller ≡ old.poller

-- the sessions that are ready were driven, by the events of the last poll, and the drives ended
abbrev pub DrivesAndEnds :
    {D : Type 0} {g : Ghosts D} → Type 0 → (Socket → Traffic) → EventLoop D g → EventLoop D g → Type 0
DrivesAndEnds {D} {g} reports traffic old new =
    (drives : DrivesReady reports traffic (items old.poller.events) old.turns old.hub old.table.slots new.turns new.hub
    new.table.slots)
    × EndAll (g.moment (device new.hub)) drives.driven (lingers_in old.lingering) new.table.slots
    (lingers_in new.lingering)
    × SetsWidth old new (items old.poller.events) drives.ready drives.driven

-- the poll reported this token
abbrev pub is_reported_of : Token → List Event → Bool
is_reported_of token events = list_any (λ e. (event_token e).0 == token.0) events

-- A turn accepts where the listener may hold more, or the poll reported it.
abbrev pub accepts_now : Backlog → List Event → Bool
accepts_now Empty events = is_reported_of LISTENER events
accepts_now More events = true
accepts_now Failed events = true

-- One turn: a poll, the drives, by the events that it reported, and then the accepts. The events of these drives,
-- followed by the joins of these accepts, are one run of the hub: lawful at each moment, with the device's failures
-- counted, and what a crash leaves known. After the drives it turned those that linger; they were closed where an
-- accept failed.
pub record IsTurn {D : Type 0} {g : Ghosts D} (reports : Type 0) (traffic : Socket
    → Traffic) (old new : EventLoop D g) : Type 0 where
  pub reported : WasReported old.poller.poll (items new.poller.events)
  pub driven : EventLoop D g
  pub drives : DrivesReady reports traffic (items new.poller.events) old.turns old.hub old.table.slots driven.turns
      driven.hub driven.table.slots
  pub widths : SetsWidth old driven (items new.poller.events) drives.ready drives.driven
  pub turns_are : new.turns ≡ driven.turns
  pub next_width_is : new.next_width ≡ driven.next_width
  pub next_is : driven.next ≡ old.next
  pub port_is : driven.port ≡ old.port
  pub backlog_is : driven.backlog ≡ old.backlog
  pub refused_is : driven.refused ≡ old.refused
  pub linger :
      LingerOn (g.moment (device driven.hub)) (is_reported_of LINGERER (items new.poller.events)) drives.driven
      (lingers_in old.lingering) driven.table.slots (lingers_in driven.lingering)
  pub accepted : EventLoop D g
  pub accepts : Accepted (accepts_now old.backlog (items new.poller.events)) driven accepted
  pub lingerers_are : lingers_in accepted.lingering ≡ unless_failed accepted.backlog (lingers_in driven.lingering)
  pub rests : Rests accepted new
  pub run : RunLeads old.hub new.hub (λ h l. (k : Point)
      × DrivenThen reports (traffic_through traffic) (writer_of driven.turns) h drives.ready k drives.driven
      × Adds k (accepted_joins (accepts_now old.backlog (items new.poller.events)) driven accepted accepts) l)

-- a turn ends with a step of the garbage, which no open transaction needs, and whether some is left is known
pub record EndsWithGarbage {D : Type 0} {g : Ghosts D} (reports : Type 0) (traffic : Socket
    → Traffic) (old new : EventLoop D g) : Type 0 where
  pub turn : IsTurn reports traffic old new
  pub collects : CollectsStep turn.accepted.hub new.hub new.has_garbage

-- what a turn does to its hub is a run of the hub
abbrev pub TurnsAreRuns : {D : Type 0} {g : Ghosts D} → Type 0 → (Socket → Traffic) → EventLoop D g → Type 0
TurnsAreRuns {D} {g} reports traffic events = (old new : EventLoop D g) → IsTurn reports traffic old new
    → HasRun old.hub new.hub

-- It took no turns, and there were as many others as the turn is wide: it takes them from now on.
abbrev pub IsPutOff : {T D : Type 0} {g : Ghosts D} → Hub D g → (polled new : Option (Entry (BufferedStream T)))
    → Type 0
IsPutOff hub polled new = (takes_none hub polled ≡ true) × (takes_turns new ≡ true)

-- In a turn a session that is ready once the poll reported is driven, or it is ready still at the end of the turn. Then
-- the next of those that take turns is nearer to it, by at least one place of the 128 of the table; or it takes turns
-- from now on, which it didn't.
pub record IsDrivenSoon {D : Type 0} {g : Ghosts D} (reports : Type 0) (traffic : Socket
    → Traffic) (old new : EventLoop D g) (turn : IsTurn reports traffic old new) (key : ℕ) : Type 0 where
  pub soon : (is_ready_slot (slot_at turn.drives.ready key) ≡ true)
      ⊎ ((is_ready_slot (slot_at new.table.slots key) ≡ true)
      × ((behind new.turns.next key < behind old.turns.next key)
      ⊎ IsPutOff old.hub (after_poll (items new.poller.events) key (slot_at old.table.slots key))
      (slot_at new.table.slots key)))
  pub bound : behind old.turns.next key ≤ SESSIONS_MAX

-- so it is of each session, in each turn: so each is driven within 129 turns
abbrev pub EachHasItsTurn : {D : Type 0} {g : Ghosts D} → Type 0 → (Socket → Traffic) → EventLoop D g → Type 0
EachHasItsTurn {D} {g} reports traffic events =
    (old new : EventLoop D g) (turn : IsTurn reports traffic old new) (key : ℕ)
    → is_ready_slot (after_poll (items new.poller.events) key (slot_at old.table.slots key)) ≡ true
    → IsDrivenSoon reports traffic old new turn key

-- The premise on the poll, over the open facts of connections and the waits that were really made: the events of a wait
-- report each connection that became ready meanwhile, under the token under which it was registered. Connections are
-- told apart by their numbers, as those of one loop are. It is neither claimed nor denied.
pub record PollReports : Type 0 where
  pub reports : (poll : CountedPoll) (events : List Event) (first now : CountedSocket) (token : Token)
      → WasReported poll events → WasRegistered first token all_interests → first.connection ≡ now.connection
      → BecameReady poll now → is_reported_of token events ≡ true

-- Under both premises each connection of a session that is there and that became ready as a turn polled is to be driven
-- in it.
abbrev pub EachBecomesReady : {D : Type 0} {g : Ghosts D} → Type 0 → (Socket → Traffic) → EventLoop D g → Type 0
EachBecomesReady {D} {g} reports traffic events =
    SocketsReport → PollReports → (old new : EventLoop D g) → IsTurn reports traffic old new → (key : ℕ)
    (entry : Entry (BufferedStream Socket)) → slot_at old.table.slots key ≡ Some entry → entry.state ≢ Gone
    → BecameReady old.poller.poll entry.stream.inner.socket
    → is_ready_slot (after_poll (items new.poller.events) key (slot_at old.table.slots key)) ≡ true

-- In a turn each session whose turn it is gets on, from whatever state the hub stands for at its beginning.
abbrev pub EachGetsOn : {D : Type 0} {g : Ghosts D} → Type 0 → (Socket → Traffic) → EventLoop D g → Type 0
EachGetsOn {D} {g} reports traffic events =
    (old new : EventLoop D g) (turn : IsTurn reports traffic old new) (h : HubState) → StandsFor old.hub h
    → (k : HubState) × StandsFor turn.driven.hub k
    × ((key : ℕ) (was : Entry (BufferedStream Socket)) → slot_at turn.drives.ready key ≡ Some was → was.state ≡ Ready
    → GetsOn reports traffic h k key was turn.drives.driven)

-- does the loop know of work: of garbage, of input to drop, of a session that is ready?
abbrev pub has_work : {D : Type 0} {g : Ghosts D} → EventLoop D g → Bool
has_work events = events.has_garbage || events.lingering.has_more || is_any_ready events.table

-- how long a turn waits, in nanoseconds: no longer than the caller's timeout, nor than the loop itself may
abbrev pub turn_waits : {D : Type 0} {g : Ghosts D} → EventLoop D g → Option Duration → Option ℕ
turn_waits events timeout = shorter (own_limit events.backlog (has_work events)) (nanos_of timeout)

-- A turn polls once, so long, and the system's poll was asked for that wait. There is room for an event of each
-- session, of each connection that lingers, and of the listener.
pub record Waits {D A : Type 0} {g : Ghosts D} (timeout : Option Duration) (old : EventLoop D g)
    (result : Result A Error)
    (new : EventLoop D g) : Type 0 where
  pub polled : polls_of new.poller ≡ after_wait result (polls_of old.poller)
  pub waited : nanos_of new.poller.waited ≡ turn_waits old timeout
  pub asked : WasAskedOnce old.poller.poll new.poller.waited new.poller.poll
  pub room : SESSIONS_MAX + LINGERING_MAX + 1 ≤ events_capacity new.poller.events
