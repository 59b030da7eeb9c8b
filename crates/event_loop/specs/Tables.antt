-- The table of connections: what a turn makes of it, and its sessions.
use Rattle.std.proofs.Common.{inl, inr}
use Rattle.std.specs.List.{list_any}
use Rattle.std.specs.Prelude.{◌≡◌, ◌≢◌, ◌⊎◌, ℕ, ◌+◌, ◌-◌, ◌^◌, ◌<◌, ◌≤◌, ◌==◌, ◌||◌, Bool, true, false, cond, List}
use Rattle.std.specs.Prelude.{[], ◌∷◌, ◌++◌, Option, Some, None, count_by, is_some, slice_index_or, Result, Ok, Err}
use Rattle.mio.specs.Event.{event_token, is_priority, is_read_closed}
use Rattle.mio.specs.declared.event.event.Event.{Event}
use Rattle.slab.specs.Slab.{Slab, entries}
use Rattle.sector.specs.declared.device.Sectors.{Ghosts}
use Rattle.socket_calls.specs.declared.counted.AcceptedSocket.{AcceptedSocket}
use Rattle.sessions.specs.SessionStreams.{HubEvent, Joins, Choice}
use Rattle.sessions.specs.StandsFor.{HubLeads, status_of}
use Rattle.sessions.specs.declared.events.Outcome.{Outcome}
use Rattle.sessions.specs.declared.events.Outcome.TheVariants.{Done}
use Rattle.sessions.specs.declared.events.Status.TheVariants.{Absent}
use Rattle.sessions.specs.declared.events.TheConstants.{SESSIONS_MAX}
use Rattle.sessions.specs.declared.hub.Hub.{Hub}
use Rattle.stream_driver.specs.Entries.{EndsDrive, HaveSessions, is_over}
use Rattle.stream_driver.specs.Sessions.{Adds, RunLeads, Stands}
use Rattle.stream_driver.specs.Traffic.{Traffic}
use Rattle.stream_driver.specs.declared.buffered.BufferedStream.{BufferedStream}
use Rattle.stream_driver.specs.declared.entries.Entry.{Entry}
use Rattle.stream_driver.specs.declared.entries.EntryState.{EntryState}
use Rattle.stream_driver.specs.declared.entries.EntryState.TheVariants.{Idle, Ready, Gone}
use Rattle.event_loop.specs.Accepts.{Accepts, TurnAccepts, more}
use Rattle.event_loop.specs.Numbers.{SessionsAreBelow}
use Rattle.event_loop.specs.Sockets.{SystemRefuses}
use Rattle.event_loop.specs.declared.connections.Backlog.{Backlog}
use Rattle.event_loop.specs.declared.connections.Refusal.{Refusal}
use Rattle.event_loop.specs.declared.connections.Refusal.TheVariants.{Full, Numbers, Room, Session, System}
use Rattle.event_loop.specs.declared.listener.AcceptAnswer.{AcceptAnswer}

-- no session is present, and none has joined
abbrev pub HasNobody : {D : Type 0} {g : Ghosts D} → Hub D g → Type 0
HasNobody hub = (hub.sessions ≡ []) × (hub.latest ≡ None)

-- is it to be driven?
abbrev pub is_ready : EntryState → Bool
is_ready Idle = false
is_ready Ready = true
is_ready Gone = false

-- is one of the entries to be driven?
abbrev pub is_any_ready : {T : Type 0} → Slab (Entry T) → Bool
is_any_ready table = list_any (λ e. is_ready e.1.state) (entries table)

-- one that waited is to be driven
abbrev pub readied : EntryState → EntryState
readied Idle = Ready
readied Ready = Ready
readied Gone = Gone

-- memory was refused, of which a call leaves no trace that could be asked for; or the system answered an error
abbrev pub IsOutsideCause : Refusal → Type 0
IsOutsideCause Room = Unit {0}
IsOutsideCause System = SystemRefuses
IsOutsideCause Numbers = ⊥
IsOutsideCause Full = ⊥
IsOutsideCause Session = ⊥

-- how many refusals are counted: one for memory, or by the system
abbrev pub refusals_as : Result (Unit {0}) Refusal → ℕ
refusals_as (Ok done) = 0
refusals_as (Err Room) = 1
refusals_as (Err System) = 1
refusals_as (Err Numbers) = 0
refusals_as (Err Full) = 0
refusals_as (Err Session) = 0

module _ {D : Type 0} {g : Ghosts D} where
  -- a session was to join, and the hub refused it
  abbrev pub JoinIsRefused : (hub later : Hub D g) → ℕ → Type 0
  JoinIsRefused hub later next = (outcome : Outcome) × (outcome ≢ Done) × HubLeads hub later (Joins next) outcome

  -- what happened to the hub as a connection was turned away: its session was to join, or nothing
  abbrev pub join_tried : (hub later : Hub D g) (next : ℕ) → (later ≡ hub) ⊎ JoinIsRefused hub later next
      → List (HubEvent × Choice)
  join_tried hub later next (inl same) = []
  join_tried hub later next (inr tried) = (Joins next, tried.2.0) ∷ []

module _ {T : Type 0} where
  -- what is at a key
  abbrev pub slot_at : List (Option (Entry T)) → ℕ → Option (Entry T)
  slot_at slots key = slice_index_or slots key None

  -- each entry with this session is gone
  abbrev pub IsWithoutEntry : ℕ → List (Option (Entry T)) → Type 0
  IsWithoutEntry s slots = (key : ℕ) (entry : Entry T) → slot_at slots key ≡ Some entry → entry.session ≡ s
      → entry.state ≡ Gone

  module _ {D : Type 0} {g : Ghosts D} where
    -- a session for which there is no entry, or one that is gone, is absent: each session that is present has an entry
    abbrev pub HaveEntries : Hub D g → List (Option (Entry T)) → Type 0
    HaveEntries hub slots = (s : ℕ) → IsWithoutEntry s slots → status_of hub s ≡ Absent

    -- what holds of a hub, the number of the next session and a table
    pub record TableStands (hub : Hub D g) (next : ℕ) (slots : List (Option (Entry T))) : Type 0 where
      pub stands : Stands hub
      pub sessions : HaveSessions hub slots
      pub numbers : SessionsAreBelow next slots
      pub entries : HaveEntries hub slots

    -- There is this cause to turn a connection away: no number is left; there are 128 entries; memory was refused, or
    -- the system answered an error; or the hub refused its session.
    abbrev pub IsCause : Hub D g → ℕ → List (Option (Entry T)) → Hub D g → Refusal → Type 0
    IsCause hub next slots later Numbers = next ≡ 2 ^ 64 - 1
    IsCause hub next slots later Full = SESSIONS_MAX ≤ count_by is_some slots
    IsCause hub next slots later Room = IsOutsideCause Room
    IsCause hub next slots later System = IsOutsideCause System
    IsCause hub next slots later Session = JoinIsRefused hub later next

    -- a connection that was turned away, for a cause: the table is as it was, and no session has joined
    pub record TurnsAway (hub : Hub D g) (next : ℕ) (slots : List (Option (Entry T))) (later : Hub D g) (then : ℕ)
        (new : List (Option (Entry T))) : Type 0 where
      pub slots_are : new ≡ slots
      pub next_is : then ≡ next
      pub hub_is : (later ≡ hub) ⊎ JoinIsRefused hub later next
      pub cause : Refusal
      pub why : IsCause hub next slots later cause

    module _ (IsNew : (key session : ℕ) → T → Type 0) where
      -- a connection that was let in: its session, the next number, has joined, and has an entry of its own that is
      -- ready, whose stream is new and made for that place and that session
      pub record LetsIn (hub : Hub D g) (next : ℕ) (slots : List (Option (Entry T))) (later : Hub D g) (then : ℕ)
          (new : List (Option (Entry T))) : Type 0 where
        pub key : ℕ
        pub entry : Entry T
        pub key_is : key < SESSIONS_MAX
        pub vacant : slot_at slots key ≡ None
        pub changed : slot_at new key ≡ Some entry
        pub others : (other : ℕ) → other ≢ key → slot_at new other ≡ slot_at slots other
        pub session : entry.session ≡ next
        pub state : entry.state ≡ Ready
        pub fresh : IsNew key entry.session entry.stream
        pub next_is : then ≡ next + 1
        pub joined : HubLeads hub later (Joins next) Done

      abbrev pub Admits : Hub D g → ℕ → List (Option (Entry T)) → Hub D g → ℕ → List (Option (Entry T)) → Type 0
      Admits hub next slots later then new =
          TurnsAway hub next slots later then new ⊎ LetsIn hub next slots later then new

      -- what happened to the hub as a connection came: the join of its session, or nothing
      abbrev pub join_of : (hub : Hub D g) (next : ℕ) (slots : List (Option (Entry T))) (later : Hub D g) (then : ℕ)
          (new : List (Option (Entry T))) → Admits hub next slots later then new → List (HubEvent × Choice)
      join_of hub next slots later then new (inl away) = join_tried hub later next away.hub_is
      join_of hub next slots later then new (inr within) = (Joins next, within.joined.0) ∷ []

      -- what is answered: why it was turned away, if it was
      abbrev pub answer_of : (hub : Hub D g) (next : ℕ) (slots : List (Option (Entry T))) (later : Hub D g) (then : ℕ)
          (new : List (Option (Entry T))) → Admits hub next slots later then new → Result (Unit {0}) Refusal
      answer_of hub next slots later then new (inl away) = Err away.cause
      answer_of hub next slots later then new (inr within) = Ok tt

      -- a connection came, with this answer, and nothing else happened to the hub
      abbrev pub ComesAs : Hub D g → ℕ → List (Option (Entry T)) → Result (Unit {0}) Refusal → Hub D g → ℕ
          → List (Option (Entry T)) → Type 0
      ComesAs hub next slots answer later then new =
          (admits : Admits hub next slots later then new) × (answer ≡ answer_of hub next slots later then new admits)
          × RunLeads hub later (λ h k. Adds h (join_of hub next slots later then new admits) k)

      -- how many refusals for memory or by the system there were
      abbrev pub refusals_in : (hub : Hub D g) (next : ℕ) (slots : List (Option (Entry T))) (later : Hub D g) (then : ℕ)
          (new : List (Option (Entry T))) → Admits hub next slots later then new → ℕ
      refusals_in hub next slots later then new admits =
          refusals_as (answer_of hub next slots later then new admits)

      -- a connection came, and nothing else happened to the hub; a refusal was counted
      abbrev pub Comes : Hub D g → ℕ → List (Option (Entry T)) → ℕ → Hub D g → ℕ → List (Option (Entry T)) → ℕ → Type 0
      Comes hub next slots refused later then new counted =
          (admits : Admits hub next slots later then new)
          × RunLeads hub later (λ h k. Adds h (join_of hub next slots later then new admits) k)
          × (counted ≡ more (refusals_in hub next slots later then new admits) refused)

-- these connections came one after another, and each was let in or turned away
pub data AdmitsEach {T D : Type 0} {g : Ghosts D} (IsNew : AcceptedSocket → (key session : ℕ) → T
    → Type 0) (hub : Hub D g) (next : ℕ) (slots : List (Option (Entry T))) : List AcceptedSocket → Hub D g → ℕ
    → List (Option (Entry T)) → Type 0 where
  Nobody : AdmitsEach IsNew hub next slots [] hub next slots
  OneMore : (came : List AcceptedSocket) (accepted : AcceptedSocket) (mid later : Hub D g) (number then : ℕ)
      (between new : List (Option (Entry T)))
      → AdmitsEach IsNew hub next slots came mid number between
      → Admits (IsNew accepted) mid number between later then new
      → AdmitsEach IsNew hub next slots (came ++ accepted ∷ []) later then new

module _ {T D : Type 0} {g : Ghosts D} where
  -- what happened to the hub as they came
  abbrev pub joins_of : {IsNew : AcceptedSocket → (key session : ℕ) → T
      → Type 0} {hub : Hub D g} {next : ℕ} {slots : List (Option (Entry T))} {came : List AcceptedSocket}
      {later : Hub D g} {then : ℕ} {new : List (Option (Entry T))}
      → AdmitsEach IsNew hub next slots came later then new → List (HubEvent × Choice)
  joins_of Nobody = []
  joins_of {IsNew} (OneMore came accepted mid later number then between new each admits) =
      joins_of each ++ join_of (IsNew accepted) mid number between later then new admits

  -- how many of them were refused for memory or by the system
  abbrev pub refusals_of : {IsNew : AcceptedSocket → (key session : ℕ) → T
      → Type 0} {hub : Hub D g} {next : ℕ} {slots : List (Option (Entry T))} {came : List AcceptedSocket}
      {later : Hub D g} {then : ℕ} {new : List (Option (Entry T))}
      → AdmitsEach IsNew hub next slots came later then new → ℕ
  refusals_of Nobody = 0
  refusals_of {IsNew} (OneMore came accepted mid later number then between new each admits) =
      refusals_of each + refusals_in (IsNew accepted) mid number between later then new admits

  -- these connections came, and nothing else happened to the hub; the refusals were counted
  abbrev pub ComeEach : (AcceptedSocket → ℕ → ℕ → T → Type 0) → Hub D g → ℕ → List (Option (Entry T)) → ℕ
      → List AcceptedSocket → Hub D g → ℕ → List (Option (Entry T)) → ℕ → Type 0
  ComeEach IsNew hub next slots refused came later then new counted =
      (each : AdmitsEach IsNew hub next slots came later then new)
      × RunLeads hub later (λ h k. Adds h (joins_of each) k)
      × (counted ≡ more (refusals_of each) refused)

  -- so it is of the connections that one turn accepts of a listener
  abbrev pub AcceptsInto : {L : Type 0} → (AcceptedSocket → ℕ → ℕ → T → Type 0) → (L → AcceptAnswer → L → Type 0)
      → (L → Accepts) → Hub D g → ℕ → List (Option (Entry T)) → ℕ → L → Backlog → Hub D g → ℕ
      → List (Option (Entry T)) → ℕ → L → Type 0
  AcceptsInto IsNew answers counts hub next slots refused first backlog later then new counted last =
      TurnAccepts answers counts (λ came. ComeEach IsNew hub next slots refused came later then new counted) first
      backlog last

module _ {T : Type 0} where
  -- an entry that the poll reported: one that waited is to be driven, and is it to be read until its stream blocks?
  abbrev pub reported : Bool → Entry (BufferedStream T) → Entry (BufferedStream T)
  reported reads_on entry = record entry {
    state = readied entry.state;
    stream = record entry.stream { reads_on = reads_on || entry.stream.reads_on };
  }

  -- a slot after an event that reports it, or another
  abbrev pub reported_slot : Bool → Bool → Option (Entry (BufferedStream T)) → Option (Entry (BufferedStream T))
  reported_slot true reads_on (Some entry) = Some (reported reads_on entry)
  reported_slot true reads_on None = None
  reported_slot false reads_on slot = slot

  -- urgent bytes, at which a read ends early, or the end of what comes: the stream is to be read until it blocks or
  -- ends
  abbrev pub after_event : Event → ℕ → Option (Entry (BufferedStream T)) → Option (Entry (BufferedStream T))
  after_event event key slot =
      reported_slot ((event_token event).0 == key) (is_priority event || is_read_closed event) slot

  -- a slot after the events of a poll
  abbrev pub after_poll : List Event → ℕ → Option (Entry (BufferedStream T)) → Option (Entry (BufferedStream T))
  after_poll [] key slot = slot
  after_poll (event ∷ events) key slot = after_poll events key (after_event event key slot)

  -- an entry that is over is taken out
  abbrev pub unless_over : Entry (BufferedStream T) → Option (Entry (BufferedStream T))
  unless_over entry = cond (is_over entry) None (Some entry)

  -- the end of a turn at a slot, at this moment of the device: the drive of its entry has ended, and the entry is taken
  -- out if it is over
  abbrev pub EndsTurn : Type 0 → (T → Traffic) → ℕ → Option (Entry (BufferedStream T))
      → Option (Entry (BufferedStream T)) → Type 0
  EndsTurn reports traffic moment None new = new ≡ None
  EndsTurn reports traffic moment (Some old) new =
      (entry : Entry (BufferedStream T)) × EndsDrive reports traffic moment old entry × (new ≡ unless_over entry)

  abbrev pub EachEnds : Type 0 → (T → Traffic) → ℕ → List (Option (Entry (BufferedStream T)))
      → List (Option (Entry (BufferedStream T))) → Type 0
  EachEnds reports traffic moment slots later = (key : ℕ)
      → EndsTurn reports traffic moment (slot_at slots key) (slot_at later key)
