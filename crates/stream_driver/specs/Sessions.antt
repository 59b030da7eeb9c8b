-- One session of a hub, and what a run of its events adds to its history.
use Rattle.std.specs.List.{flat_map, AllByRecursion}
use Rattle.std.specs.Prelude.{◌≡◌, ◌≢◌, ℕ, ◌≤◌, true, List, [], ◌∷◌, ◌++◌, map, Option, Some, None}
use Rattle.model.specs.Grammar.{IsProperBeginning}
use Rattle.model.specs.Leading.{LeadsBy}
use Rattle.model.specs.Map.{Bytes}
use Rattle.model.specs.Operations.{Response}
use Rattle.model.specs.ReplyText.{reply_text}
pub use Rattle.sector.specs.declared.device.Sectors.{Ghosts}
use Rattle.engine.specs.Meaning.{has_risen}
use Rattle.sessions.specs.Laws.{HasRun, Ran, failures_in}
use Rattle.sessions.specs.SessionStreams.{HubState, SessionStream, HubEvent, Joins, Receives, Serves, Sends, Leaves}
use Rattle.sessions.specs.SessionStreams.{Choice, ArePossible, hub_step, run, stream_of}
use Rattle.sessions.specs.StandsFor.{StandsFor, status_of, status_in, room_in, pending_in, failures}
use Rattle.sessions.specs.declared.events.Status.{Status}
use Rattle.sessions.specs.declared.events.Status.TheVariants.{Absent, Open}
pub use Rattle.sessions.specs.declared.hub.Hub.{Hub}

abbrev pub inbox_in : Option SessionStream → Bytes
inbox_in None = []
inbox_in (Some st) = st.now.inbox

abbrev pub status_at : HubState → ℕ → Status
status_at h s = status_in (stream_of h s)

abbrev pub inbox_room : HubState → ℕ → ℕ
inbox_room h s = room_in (stream_of h s)

abbrev pub pending_at : HubState → ℕ → Bytes
pending_at h s = pending_in (stream_of h s)

abbrev pub inbox_at : HubState → ℕ → Bytes
inbox_at h s = inbox_in (stream_of h s)

abbrev pub IsPresentIn : HubState → ℕ → Type 0
IsPresentIn h s = status_at h s ≢ Absent

-- the session is open, owes no reply, and waits for the rest of a request
abbrev pub AwaitsMore : HubState → ℕ → Type 0
AwaitsMore h s = (status_at h s ≡ Open) × (pending_at h s ≡ []) × IsProperBeginning (inbox_at h s)

-- the hub stands for some state
abbrev pub Stands : {D : Type 0} {g : Ghosts D} → Hub D g → Type 0
Stands hub = ∥ ((h : HubState) × StandsFor hub h) ∥₁

-- the session is present, of a hub that stands for some state
abbrev pub IsPresent : {D : Type 0} {g : Ghosts D} → Hub D g → ℕ → Type 0
IsPresent hub s = Stands hub × (status_of hub s ≢ Absent)

-- a state, how many calls of the device have failed by then, and the events so far
pub record Point : Type 0 where
  pub hub : HubState
  pub failures : ℕ
  pub events : List HubEvent

-- the hub stands for this state, and so many calls of its device have failed
pub record StandsAt {D : Type 0} {g : Ghosts D} (hub : Hub D g) (p : Point) : Type 0 where
  pub state : StandsFor hub p.hub
  pub count : p.failures ≡ failures hub

-- these events, with their choices, lead from one point to the other
pub record Adds (old : Point) (choices : List (HubEvent × Choice)) (new : Point) : Type 0 where
  pub run_is : new.hub ≡ run old.hub choices
  pub events_are : new.events ≡ old.events ++ map (λ e. e.0) choices

-- By these events, each with its choice, a run leads from the old hub to the new one: lawful at each moment, and what a
-- crash leaves known. From every point at which the old hub stands they lead to one at which the new hub stands and
-- that is so related to it.
pub record RunLeads {D : Type 0} {g : Ghosts D} (old new : Hub D g) (P : Point → Point → Type 0) : Type 0 where
  pub choices : List (HubEvent × Choice)
  pub ran : Ran old new choices
  pub to : LeadsBy StandsAt old new (λ h k. Adds h choices k × P h k)

-- it is a run of the hub, whatever else is said of the points
abbrev pub LeadsAreRuns : {D : Type 0} {g : Ghosts D} → Hub D g → Type 0
LeadsAreRuns {D} {g} hub = (old new : Hub D g) → RunLeads old new (λ h k. Unit {0}) → HasRun old new

-- whose event it is
abbrev pub session_of : HubEvent → ℕ
session_of (Joins s) = s
session_of (Receives s piece) = s
session_of (Serves s) = s
session_of (Sends s n) = s
session_of (Leaves s) = s

-- what came in, the requests that were served, the machine's replies and what was reported as sent go on; what was
-- sent, followed by what is pending, is what was pending, followed by the texts of these replies
pub record Continues (first last : SessionStream) : Type 0 where
  pub received : Bytes
  pub received_is : last.received ≡ first.received ++ received
  pub served : List (List Bytes)
  pub served_is : last.served ≡ first.served ++ served
  pub replies : List Response
  pub replies_is : last.replies ≡ first.replies ++ replies
  pub sent : Bytes
  pub sent_is : last.sent ≡ first.sent ++ sent
  pub texts : sent ++ last.now.pending ≡ first.now.pending ++ flat_map reply_text replies

-- A run of events of one session, which stays present; the others are unchanged. The device fails in none of the events
-- where the count of its failures did not rise.
pub record RunsOneSession (s : ℕ) (old new : Point) : Type 0 where
  pub events : List (HubEvent × Choice)
  pub own : AllByRecursion (λ e. session_of e.0 ≡ s) events
  pub possible : ArePossible old.hub events
  pub adds : Adds old events new
  pub counted : old.failures ≤ new.failures
  pub risen_then : 1 ≤ failures_in events → has_risen old.failures new.failures ≡ true
  pub first : SessionStream
  pub last : SessionStream
  pub first_is : stream_of old.hub s ≡ Some first
  pub last_is : stream_of new.hub s ≡ Some last
  pub history : Continues first last
  pub present : IsPresentIn new.hub s
  pub others : (t : ℕ) → t ≢ s → stream_of new.hub t ≡ stream_of old.hub t

-- bytes come in only where the session waits for the rest of a request
abbrev pub ComesInTurn : HubState → HubEvent → Type 0
ComesInTurn h (Receives s piece) = AwaitsMore h s
ComesInTurn h (Joins s) = Unit {0}
ComesInTurn h (Serves s) = Unit {0}
ComesInTurn h (Sends s n) = Unit {0}
ComesInTurn h (Leaves s) = Unit {0}

abbrev pub ComeInTurn : HubState → List (HubEvent × Choice) → Type 0
ComeInTurn h [] = Unit {0}
ComeInTurn h (x ∷ xs) = ComesInTurn h x.0 × ComeInTurn (hub_step h x.0 x.1).0 xs
