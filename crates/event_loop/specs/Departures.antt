-- What left over the connections was answered before, and no crash since loses it.
use Rattle.std.specs.List.{AllByRecursion, Contains}
use Rattle.std.specs.Prelude.{◌≡◌, ◌≤◌, ◌⊎◌, ℕ, Bool, true, false, List, ◌++◌, Option, Some, length, map}
use Rattle.model.specs.History.{Record, map_at}
use Rattle.model.specs.Machine.{State, last, opened, step}
use Rattle.model.specs.Map.{KeyMap}
use Rattle.model.specs.Operations.{Commit, Response}
use Rattle.model.specs.Operations.Response.{Number}
use Rattle.sector.specs.declared.device.Sectors.{Ghosts}
use Rattle.sessions.specs.FoundMaps.{HoldsFound, MayFind}
use Rattle.sessions.specs.Restarts.{FollowOn, Restart, LoseNothing, Served}
use Rattle.sessions.specs.Readings.{HasOneReading}
use Rattle.sessions.specs.SessionStreams.{Choice, HubEvent, HubState, SessionStream, hub_over, replies_text}
use Rattle.sessions.specs.SessionStreams.{requests_text, run}
use Rattle.sessions.specs.StandsFor.{device}
use Rattle.sessions.specs.declared.hub.Hub.{Hub}
use Rattle.stream_driver.specs.Buffers.{traffic_through}
use Rattle.stream_driver.specs.Entries.{EndsDrive, is_gone}
use Rattle.stream_driver.specs.Sends.{IsAnswered, WasAnsweredBefore}
use Rattle.stream_driver.specs.Traffic.{Departure, IsBeginning, Traffic}
use Rattle.stream_driver.specs.declared.buffered.BufferedStream.{BufferedStream}
use Rattle.stream_driver.specs.declared.entries.Entry.{Entry}
use Rattle.event_loop.specs.Lingerings.{DropsInput}
use Rattle.event_loop.specs.Sockets.{SocketsReport, socket_session, traffic_of}
use Rattle.event_loop.specs.TableBytes.{HaveBytes}
use Rattle.event_loop.specs.Tables.{slot_at}
use Rattle.event_loop.specs.declared.lingering.Dropped.{Dropped}
use Rattle.event_loop.specs.declared.lingering.Lingerer.{Lingerer}
use Rattle.event_loop.specs.declared.socket.Socket.{Socket}

-- a number, which is answered to a COMMIT alone, is that of a transaction of this history
abbrev pub IsCommitted : List Record → Response → Type 0
IsCommitted history (Number n) = Contains (map (λ r. r.commit) history) n
IsCommitted history other = Unit {0}

-- the map with all that has committed
abbrev pub newest_map : State → KeyMap
newest_map m = map_at m.base m.history (last m)

-- the map with a COMMIT of some session in a state of this run that has made so many commits
abbrev pub IsOneMore : HubState → List (HubEvent × Choice) → ℕ → KeyMap → Type 0
IsOneMore h events n found =
    (by since : List (HubEvent × Choice)) × (events ≡ by ++ since) × (last (run h by).machine ≡ n)
    × (s : ℕ) × (found ≡ newest_map (step (run h by).machine s Commit false).0)

-- the state in which the opening left the store
abbrev pub first_state : {D : Type 0} {g : Ghosts D} {hub : Hub D g} → Served hub → HubState
first_state {D} {g} served = hub_over (opened served.start.map served.start.begins.used (g.size served.start.dev))

-- the one to which the run has come
abbrev pub present_state : {D : Type 0} {g : Ghosts D} {hub : Hub D g} → Served hub → HubState
present_state served = run (first_state served) served.choices

module _ {D : Type 0} {g : Ghosts D} {hub : Hub D g} (served : Served hub) where
  -- the run passes a hub whose device stands at the moment of the departure, and by then the session had been answered
  -- the bytes
  abbrev pub WasAnsweredInRun : ℕ → Departure → Type 0
  WasAnsweredInRun s d = WasAnsweredBefore s (first_state served) served.first hub served.choices d

  -- The session has left, and what was served for it had come in: the spellings of the requests begin these bytes.
  pub record WasRequested (s : ℕ) (received : List ℕ) : Type 0 where
    pub stream : SessionStream
    pub left : Contains (present_state served).gone (s, stream)
    pub requests : IsBeginning (requests_text stream) received

  -- So it is of each departure of the session's stream, which has its number. All that was written to the stream was
  -- answered, so what it buffers may leave later. And where the session is gone, what was served for it was requested.
  pub record StreamWasAnswered (gone : Bool) (s : ℕ) (t : Traffic) : Type 0 where
    pub number : t.connection ≡ s
    pub was_answered : AllByRecursion (WasAnsweredInRun s) t.departed
    pub answered : IsAnswered s (first_state served) served.choices t.sent
    pub requested : gone ≡ true → WasRequested s t.received

  -- so it is of each entry, gone or not
  abbrev pub EntriesWereAnswered : List (Option (Entry (BufferedStream Socket))) → Type 0
  EntriesWereAnswered slots = (key : ℕ) (entry : Entry (BufferedStream Socket)) → slot_at slots key ≡ Some entry
      → StreamWasAnswered (is_gone entry.state) entry.session (traffic_through traffic_of entry.stream)

  -- and of each connection that lingers, of the session that it had
  abbrev pub LingerersWereAnswered : List Lingerer → Type 0
  LingerersWereAnswered all = AllByRecursion (λ l. StreamWasAnswered true (socket_session l.socket)
      (traffic_of l.socket)) all

  -- This map is that after some number of the run's commits, or that with one more, which was under way or the device
  -- failed in; none that was committed by these events is above that number.
  pub record IsAfterCommits (before : List (HubEvent × Choice)) (found : KeyMap) : Type 0 where
    pub commits : ℕ
    pub none_above : AllByRecursion (λ r. r.commit ≤ commits) (run (first_state served) before).machine.history
    pub found_is : (found ≡ map_at (present_state served).machine.base (present_state served).machine.history commits)
        ⊎ IsOneMore (first_state served) served.choices commits found

  -- What left begins the texts of the machine's replies, which have one reading, and each number among these is that of
  -- a transaction committed by then. A crash at the moment of the departure or since leaves no map that is older than
  -- the one committed there: one after at least as many commits. So whatever restarts follow, the first begins with
  -- such a map, and each other with one that the restart before it may have left.
  pub record IsDepartureKept (s : ℕ) (d : Departure) : Type 0 where
    pub was_answered : WasAnsweredInRun s d
    pub texts : IsBeginning d.bytes (replies_text was_answered.was_answered.stream)
    pub reading : HasOneReading was_answered.was_answered.stream
    pub committed : AllByRecursion (IsCommitted (run (first_state served) was_answered.before).machine.history)
        was_answered.was_answered.stream.replies
    pub left : g.keeps_model → (c : List (List ℕ)) → g.left_since (device hub) d.moment c
        → HoldsFound (first_state served) served.choices (length was_answered.before) c
    pub counted : (map : KeyMap) → MayFind (first_state served) served.choices (length was_answered.before) map
        → IsAfterCommits was_answered.before map
    pub found : g.keeps_model → (restarts : List (Restart D g)) → FollowOn (g.left_since (device hub) d.moment) restarts
        → LoseNothing (MayFind (first_state served) served.choices (length was_answered.before)) restarts

-- The hub is on a run from an opening. In the state to which it has come each connection has the bytes of its session;
-- what left over each was answered before.
pub record Serving {D : Type 0} {g : Ghosts D} (hub : Hub D g) (slots : List (Option (Entry (BufferedStream Socket))))
    (lingerers : List Lingerer) : Type 0 where
  pub served : Served hub
  pub bytes : HaveBytes SocketsReport (traffic_through traffic_of) (present_state served) slots
  pub reports : SocketsReport → EntriesWereAnswered served slots
  pub lingerers_report : SocketsReport → LingerersWereAnswered served lingerers

abbrev pub IsServing : {D : Type 0} {g : Ghosts D} → Hub D g → List (Option (Entry (BufferedStream Socket)))
    → List Lingerer → Type 0
IsServing hub slots lingerers = ∥ Serving hub slots lingerers ∥₁

-- This holds of each session, gone or not, and of what its connection has moved, as a turn leaves it: of each entry
-- after its drive, whether it stays or is taken out; of each connection that lingered before the turn; and of each that
-- was turned, whether it stays or is closed.
pub record HoldsAtEnds (P : Bool → ℕ → Traffic → Type 0) (moment : ℕ)
    (driven : List (Option (Entry (BufferedStream Socket)))) (lingered turned : List Lingerer) : Type 0 where
  pub entries : (key : ℕ) (was entry : Entry (BufferedStream Socket)) → slot_at driven key ≡ Some was
      → EndsDrive SocketsReport traffic_of moment was entry
      → P (is_gone entry.state) entry.session (traffic_of entry.stream.inner)
  pub linger : AllByRecursion (λ l. P true (socket_session l.socket) (traffic_of l.socket)) lingered
  pub ends :
      AllByRecursion (λ l. (dropped : Dropped) (later : Lingerer) → DropsInput moment l dropped later
      → P true (socket_session l.socket) (traffic_of later.socket)) turned

-- each departure is kept, and what was served for a session that is gone was requested
pub record IsExplained {D : Type 0} {g : Ghosts D} {hub : Hub D g} (served : Served hub) (gone : Bool) (s : ℕ)
    (t : Traffic) : Type 0 where
  pub kept : AllByRecursion (IsDepartureKept served s) t.departed
  pub requested : gone ≡ true → WasRequested served s t.received
