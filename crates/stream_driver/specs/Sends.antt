-- What has left for a peer, and when its session had been answered that.
use Rattle.std.specs.List.{AllByRecursion}
use Rattle.std.specs.Prelude.{◌≡◌, ◌≢◌, ◌⊎◌, ℕ, List, ◌++◌, Option, Some, None, slice_index_or}
use Rattle.sessions.specs.Laws.{Ran}
use Rattle.sessions.specs.SessionStreams.{HubState, HubEvent, Choice, SessionStream, run, stream_of}
use Rattle.sessions.specs.StandsFor.{StandsFor, device}
use Rattle.stream_driver.specs.Sessions.{Ghosts, Hub, RunLeads, Point}
use Rattle.stream_driver.specs.Traffic.{Departure, IsBeginning, Traffic}
use Rattle.stream_driver.specs.Types.{EntryGone as Gone, Entry}

-- Some of these events, from this state on, led to one in which the session had been answered these bytes: they begin
-- what was reported as sent to it, followed by what is pending for it.
pub record IsAnswered (s : ℕ) (h : HubState) (events : List (HubEvent × Choice)) (bytes : List ℕ) : Type 0 where
  pub by : List (HubEvent × Choice)
  pub since : List (HubEvent × Choice)
  pub events_are : events ≡ by ++ since
  pub stream : SessionStream
  pub stream_is : stream_of (run h by) s ≡ Some stream
  pub answered : IsBeginning bytes (stream.sent ++ stream.now.pending)

-- A departure in a run that begins at this state: the run passes a hub whose device stands at the moment of the
-- departure, and by then the session had been answered the bytes.
pub record WasAnsweredBefore {D : Type 0} {g : Ghosts D} (s : ℕ) (h : HubState) (old new : Hub D g)
    (events : List (HubEvent × Choice)) (d : Departure) : Type 0 where
  pub before : List (HubEvent × Choice)
  pub since : List (HubEvent × Choice)
  pub events_are : events ≡ before ++ since
  pub hub : Hub D g
  pub came : Ran old hub before
  pub goes_on : Ran hub new since
  pub moment_is : d.moment ≡ g.moment (device hub)
  pub was_answered : IsAnswered s h before d.bytes

-- each departure since was answered so before
pub record WereAnsweredBefore {D : Type 0} {g : Ghosts D} (s : ℕ) (h : HubState) (old new : Hub D g)
    (events : List (HubEvent × Choice)) (before after : Traffic) : Type 0 where
  pub departures : List Departure
  pub departed_are : after.departed ≡ before.departed ++ departures
  pub each : AllByRecursion (WasAnsweredBefore s h old new events) departures

-- what was sent over the stream is what was reported as sent
pub record HasSent (s : ℕ) (h : HubState) (t : Traffic) : Type 0 where
  pub stream : SessionStream
  pub stream_is : stream_of h s ≡ Some stream
  pub sent : t.sent ≡ stream.sent

-- A run leads from one hub to the other, and what left over the session's stream in it was answered before, in each
-- state at which what was sent over the stream is what was reported as sent. All that was sent over it was answered, so
-- what it still buffers may leave later.
pub record LeadsAnswering {D : Type 0} {g : Ghosts D} (s : ℕ) (reports : Type 0) (old : Hub D g) (before : Traffic)
    (new : Hub D g) (after : Traffic) (P : Point → Point → Type 0) : Type 0 where
  pub leads : RunLeads old new P
  pub answering : reports → (h : HubState) → StandsFor old h → HasSent s h before
      → WereAnsweredBefore s h old new leads.choices before after
  pub answered : reports → (h : HubState) → StandsFor old h → HasSent s h before
      → IsAnswered s h leads.choices after.sent

module _ {T : Type 0} (traffic : T → Traffic) where
  -- so it is of each entry that isn't gone
  abbrev pub HaveSent : HubState → List (Option (Entry T)) → Type 0
  HaveSent h slots = (key : ℕ) (entry : Entry T) → slice_index_or slots key None ≡ Some entry → entry.state ≢ Gone
      → HasSent entry.session h (traffic entry.stream)

  -- what left over the streams of the entries was answered before
  abbrev pub AllAnsweredBefore : {D : Type 0} {g : Ghosts D} → HubState → (old new : Hub D g) → List (HubEvent × Choice)
      → (slots later : List (Option (Entry T))) → Type 0
  AllAnsweredBefore h old new events slots later =
      (key : ℕ) (was entry : Entry T) → slice_index_or slots key None ≡ Some was
      → slice_index_or later key None ≡ Some entry
      → WereAnsweredBefore was.session h old new events (traffic was.stream) (traffic entry.stream)

  -- over each of them nothing was sent since, or all that was sent was answered
  abbrev pub AllAnswered : HubState → List (HubEvent × Choice) → (slots later : List (Option (Entry T))) → Type 0
  AllAnswered h events slots later =
      (key : ℕ) (was entry : Entry T) → slice_index_or slots key None ≡ Some was
      → slice_index_or later key None ≡ Some entry
      → ((traffic entry.stream).sent ≡ (traffic was.stream).sent)
      ⊎ IsAnswered was.session h events (traffic entry.stream).sent

  -- A run leads from one hub to the other, and what left over the streams of a table in it was answered before; what
  -- was sent over them was answered.
  pub record DrivesAnswering {D : Type 0} {g : Ghosts D} (reports : Type 0) (old : Hub D g)
      (slots : List (Option (Entry T))) (new : Hub D g) (later : List (Option (Entry T))) (P : Point → Point
      → Type 0) : Type 0 where
    pub leads : RunLeads old new P
    pub answering : reports → (h : HubState) → StandsFor old h → HaveSent h slots
        → AllAnsweredBefore h old new leads.choices slots later
    pub answered : reports → (h : HubState) → StandsFor old h → HaveSent h slots
        → AllAnswered h leads.choices slots later
    pub keeps : reports → (h : HubState) → StandsFor old h → HaveSent h slots → HaveSent (run h leads.choices) later

-- the run does this over the stream, and the call answers so
abbrev pub LeadsAs : {D A : Type 0} {g : Ghosts D} → ℕ → (reports : Type 0)
    → (ℕ → Type 0 → Point → Traffic → A → Point → Traffic → Type 0) → A → Hub D g → Traffic → Hub D g → Traffic → Type 0
LeadsAs s reports P answer old before new after =
    LeadsAnswering s reports old before new after (λ h k. P s reports h before answer k after)
