-- Which states a hub stands for, and what an event does to them.
use Rattle.std.specs.BTreeMap.{is_at}
use Rattle.std.specs.Map.{lookup}
use Rattle.std.specs.Ordering.{nat_cmp}
use Rattle.std.specs.Prelude.{◌≡◌, ◌⊎◌, ◌≤◌, ℕ, ◌+◌, Bool, true, false, List, [], map, Option, Some, None, option_map}
use Rattle.std.specs.Prelude.{Result, Ok, Err}
use Rattle.model.specs.Leading.{LeadsBy}
use Rattle.sector.specs.Counts.{Stayed}
pub use Rattle.sector.specs.declared.device.Sectors.{Ghosts}
use Rattle.commit_log.specs.LogState.{sync_count}
use Rattle.commit_log.specs.declared.faults.Unopened.{Unopened}
use Rattle.commit_log.specs.declared.log.Log.{Log}
use Rattle.engine.specs.Meaning.{StandsFor as EngineStandsFor, device_of, failures_of, has_engine_stopped}
use Rattle.engine.specs.Meaning.{has_engine_written, log_of, engine_records, pages_looked_at}
use Rattle.sessions.specs.Calls.{is_memory, has_failed}
use Rattle.sessions.specs.SessionStreams.{Status, Outcome, HubState, SessionState, SessionStream, HubEvent, Joins}
use Rattle.sessions.specs.SessionStreams.{Receives, Serves, Sends, Leaves, Choice, IsPossible, hub_step, room}
use Rattle.sessions.specs.SessionStreams.{IsReachedHub}
use Rattle.sessions.specs.declared.events.Event.{Event}
use Rattle.sessions.specs.declared.events.Event.TheVariants.{Joined, Bytes, Serve, Sent, Left}
use Rattle.sessions.specs.declared.events.Status.TheVariants.{Absent}
pub use Rattle.sessions.specs.declared.hub.Hub.{Hub}

abbrev pub event_of : Event → HubEvent
event_of (Joined s) = Joins s
event_of (Bytes s piece) = Receives s piece.now
event_of (Serve s) = Serves s
event_of (Sent s n) = Sends s n
event_of (Left s) = Leaves s

-- what each session that is present has at hand
abbrev pub at_hand : List (ℕ × SessionStream) → List (ℕ × SessionState)
at_hand es = map (λ e. (e.0, e.1.now)) es

-- a hub keeps of each session what it has at hand, and of those that left the greatest number
pub record StandsFor {D : Type 0} {g : Ghosts D} (hub : Hub D g) (h : HubState) : Type 0 where
  pub engine : EngineStandsFor hub.engine h.machine
  pub sessions : hub.sessions ≡ at_hand h.present
  pub latest : hub.latest ≡ h.latest
  pub reached : IsReachedHub h

-- the log of the hub's engine
abbrev pub log : {D : Type 0} {g : Ghosts D} → Hub D g → Log D g
log hub = log_of hub.engine

-- the device of the hub's engine, and how many of its calls have failed
abbrev pub device : {D : Type 0} {g : Ghosts D} → Hub D g → D
device hub = device_of hub.engine

abbrev pub failures : {D : Type 0} {g : Ghosts D} → Hub D g → ℕ
failures hub = failures_of hub.engine

-- how many syncs that device was asked for
abbrev pub syncs : {D : Type 0} {g : Ghosts D} → Hub D g → ℕ
syncs hub = sync_count (log hub)

-- the device after an opening: that of the hub, or the one that was returned
abbrev pub device_after : {D : Type 0} {g : Ghosts D} → Result (Hub D g) (Unopened D) → D
device_after (Ok hub) = device hub
device_after (Err unopened) = unopened.device

-- whether the device has failed in a COMMIT
abbrev pub is_stopped : {D : Type 0} {g : Ghosts D} → Hub D g → Bool
is_stopped hub = has_engine_stopped hub.engine

-- has the session's open transaction, if it has one, written a key?
abbrev pub has_written : {D : Type 0} {g : Ghosts D} → Hub D g → ℕ → Bool
has_written hub s = has_engine_written hub.engine s

-- how many records the log of the hub's engine has
abbrev pub records_of : {D : Type 0} {g : Ghosts D} → Hub D g → ℕ
records_of hub = engine_records hub.engine

-- how many pages the ranges of its sessions have looked at
abbrev pub pages_looked_at_of : {D : Type 0} {g : Ghosts D} → Hub D g → ℕ
pages_looked_at_of hub = pages_looked_at hub.engine

-- The event serves a request of a session whose transaction has written, and adds one record to the log. The session's
-- transaction has then ended: it has none that has written.
pub record AddsRecord {D : Type 0} {g : Ghosts D} (old new : Hub D g) (e : HubEvent) : Type 0 where
  pub session : ℕ
  pub serves : e ≡ Serves session
  pub one : records_of new ≡ records_of old + 1
  pub wrote : has_written old session ≡ true
  pub ended : has_written new session ≡ false

-- an event does so, or the log has as many records as before
abbrev pub CountsRecords : {D : Type 0} {g : Ghosts D} → Hub D g → Hub D g → HubEvent → Type 0
CountsRecords old new e =
    (h : HubState) → StandsFor old h → (records_of new ≡ records_of old) ⊎ AddsRecord old new e

-- What an event asks of the device: nothing of a store that is stopped; two syncs at most of one that runs, and none
-- where no record was added and no call failed.
pub record AsksDevice {D : Type 0} {g : Ghosts D} (old new : Hub D g) : Type 0 where
  pub still : is_stopped old ≡ true → device new ≡ device old
  pub few : syncs new ≤ syncs old + 2
  pub quiet : records_of new ≡ records_of old → Stayed (failures old) (failures new) → syncs new ≡ syncs old

-- by a choice that is possible, an event leads to this state and outcome
pub record Reaches (h : HubState) (e : HubEvent) (c : Choice) (later : HubState) (outcome : Outcome) : Type 0 where
  pub possible : IsPossible h e c
  pub step : hub_step h e c ≡ (later, outcome)

-- by one choice, in which memory was refused exactly where the outcome says so, and the device failed exactly where its
-- count says so, from every state that the old hub stood for to the next
abbrev pub HubLeads : {D : Type 0} {g : Ghosts D} → Hub D g → Hub D g → HubEvent → Outcome → Type 0
HubLeads old new e outcome =
    (c : Choice) × (c.refused ≡ is_memory outcome) × (c.failed ≡ has_failed old.engine new.engine)
    × LeadsBy StandsFor old new (λ h later. Reaches h e c later outcome)

-- how a session stands, how many bytes its inbox has room for and what is pending: of one that is not present, nothing
abbrev pub status_or_absent : Option SessionState → Status
status_or_absent None = Absent
status_or_absent (Some n) = n.status

abbrev pub room_or_none : Option SessionState → ℕ
room_or_none None = 0
room_or_none (Some n) = room n

abbrev pub pending_or_none : Option SessionState → List ℕ
pending_or_none None = []
pending_or_none (Some n) = n.pending

-- what a hub has at hand of a session, if it is present
abbrev pub session_at : {D : Type 0} {g : Ghosts D} → Hub D g → ℕ → Option SessionState
session_at hub s = lookup (is_at (nat_cmp s)) hub.sessions

-- how it stands there, its room and what is pending
abbrev pub status_of : {D : Type 0} {g : Ghosts D} → Hub D g → ℕ → Status
status_of hub s = status_or_absent (session_at hub s)

abbrev pub room_of : {D : Type 0} {g : Ghosts D} → Hub D g → ℕ → ℕ
room_of hub s = room_or_none (session_at hub s)

abbrev pub pending_of : {D : Type 0} {g : Ghosts D} → Hub D g → ℕ → List ℕ
pending_of hub s = pending_or_none (session_at hub s)

-- the same of a stream, if there is one
abbrev pub status_in : Option SessionStream → Status
status_in stream = status_or_absent (option_map (λ st. st.now) stream)

abbrev pub room_in : Option SessionStream → ℕ
room_in stream = room_or_none (option_map (λ st. st.now) stream)

abbrev pub pending_in : Option SessionStream → List ℕ
pending_in stream = pending_or_none (option_map (λ st. st.now) stream)
