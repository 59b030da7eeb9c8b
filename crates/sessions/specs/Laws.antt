-- What holds of every state that a hub stands for.
use Rattle.std.specs.List.{AllByRecursion, flat_map}
use Rattle.std.specs.Prelude.{◌≡◌, ◌≤◌, ◌+◌, if◌then◌else◌, ℕ, nat_lt, Bool, true, false, List, [], ◌∷◌, ◌++◌, map}
use Rattle.std.specs.Prelude.{take, Some}
use Rattle.model.specs.Laws.{IsIsolated, IsOrderedByPlace, IsSerializable}
use Rattle.model.specs.Machine.{IsReached, Running, last, running_of, snapshot}
use Rattle.model.specs.Map.{Bytes}
use Rattle.model.specs.Operations.{Operation, Response, Begin, Done}
use Rattle.model.specs.ReplyText.{reply_text}
use Rattle.sector.specs.SectorModel.{LeavesOnly}
use Rattle.versions.specs.Meaning.{IsReclaimedInPart, garbage_of}
use Rattle.pivot_check.specs.Kept.{HasForgotten, FreesRuns, KeepsNoneUpto, garbage_runs}
use Rattle.engine.specs.Meaning.{committed_of, facts_of, versions_of}
use Rattle.engine.specs.Recovery.{HoldsMap, committed_map}
use Rattle.sessions.specs.Calls.{has_failed}
use Rattle.sessions.specs.Crashes.{HoldsBeforeOrAfter}
use Rattle.sessions.specs.SessionStreams.{Open, HubState, SessionStream, HubEvent, Choice, IsPossible, ArePossible}
use Rattle.sessions.specs.SessionStreams.{run, replies_text, requests_text, asks, stream_of, hub_step}
use Rattle.sessions.specs.StandsFor.{Ghosts, Hub, StandsFor, device, failures, is_stopped}

-- what came in is the spellings of the requests that were served and then the inbox, until it was emptied for good; the
-- texts of the machine's replies are the bytes that were reported as sent and then those that are pending
pub record IsSessionStream (st : SessionStream) : Type 0 where
  pub rest : Bytes
  pub input : st.received ≡ requests_text st ++ rest
  pub inbox : st.now.status ≡ Open → rest ≡ st.now.inbox
  pub output : replies_text st ≡ st.sent ++ st.now.pending

-- the session's last requests are the BEGIN of its open transaction and the transaction's own, and its last replies are
-- +OK and theirs
pub record EndsStream (st : SessionStream) (t : Running) : Type 0 where
  pub earlier : List Response
  pub replies : st.replies ≡ earlier ++ Done ∷ t.replies
  pub before : List Operation
  pub requests : map asks st.served ≡ before ++ Begin ∷ t.requests

abbrev pub EndsItsStream : HubState → ℕ → Running → Type 0
EndsItsStream h s t = (st : SessionStream) × (stream_of h s ≡ Some st) × EndsStream st t

-- Each open transaction was answered as a private copy of the map at its begin answers its own requests alone. The
-- committed transactions, one after another in an order that respects real time, give the same replies and the same
-- final map. Each session's bytes are those of its requests and of the machine's replies.
pub record IsLawful (h : HubState) : Type 0 where
  pub reached : IsReached h.machine
  pub isolated : IsIsolated h.machine
  pub serializable : IsSerializable h.machine
  pub transactions : (s : ℕ) (t : Running) → running_of h.machine s ≡ Some t → EndsItsStream h s t
  pub present : AllByRecursion (λ e. IsSessionStream e.1) h.present
  -- as they were when they left
  pub gone : AllByRecursion (λ e. IsSessionStream e.1) h.gone

-- how many of the events the device failed in
abbrev pub failures_in : List (HubEvent × Choice) → ℕ
failures_in [] = 0
failures_in (e ∷ es) = if e.1.failed then failures_in es + 1 else failures_in es

-- the begins of the open transactions
abbrev pub begins : HubState → List ℕ
begins h = map (λ e. e.1.begin) h.machine.running

-- A hub between two events: the laws hold of each state that it stands for, the order by places is one of the serial
-- orders, and unless the store is stopped a crash leaves the map that is committed.
pub record IsSound {D : Type 0} {g : Ghosts D} (hub : Hub D g) : Type 0 where
  pub lawful : (h : HubState) → StandsFor hub h → IsLawful h
  pub ordered : (h : HubState) → StandsFor hub h → IsOrderedByPlace h.machine
  pub stored : g.keeps_model → (h : HubState) → StandsFor hub h → h.machine.stopped ≡ false → (c : List (List ℕ))
      → g.may_leave (device hub) c → HoldsMap c (committed_map h.machine)

-- One event, by a choice that is possible, leads on from each state that the old hub stood for. The device failed in it
-- only where the count of its failures rose and the store, which ran, is stopped since. A crash at any moment of it
-- leaves the map committed before it or, where it executes a COMMIT, that with the transaction's writes. A store that
-- was stopped leaves the device alone.
pub record Steps {D : Type 0} {g : Ghosts D} (old new : Hub D g) (e : HubEvent) (c : Choice) : Type 0 where
  pub leads : (h : HubState) → StandsFor old h → IsPossible h e c × StandsFor new (hub_step h e c).0
  pub counted : failures old ≤ failures new
  pub failed : c.failed ≡ true
      → (has_failed old.engine new.engine ≡ true) × (is_stopped old ≡ false) × (is_stopped new ≡ true)
  pub crash : g.keeps_model → (h : HubState) → StandsFor old h → h.machine.stopped ≡ false
      → LeavesOnly g.moment g.left_since (device old) (device new) (HoldsBeforeOrAfter h e)
  pub still : is_stopped old ≡ true → device new ≡ device old

-- What a hub may do where no event comes: it stands for the states that it stood for, over the same device. So it may
-- keep less.
pub record Rests {D : Type 0} {g : Ghosts D} (old new : Hub D g) : Type 0 where
  pub stands : (h : HubState) → StandsFor old h → StandsFor new h
  pub device_is : device new ≡ device old
  pub stopped_is : is_stopped new ≡ is_stopped old

-- A run: by these events, each with its choice, from hub to hub, and each of the hubs is sound; where no event comes,
-- the hub rests. So at each moment of the run, and for each transaction up to its commit or abort, the laws hold, and
-- what a crash then leaves is known.
abbrev pub Ran : {D : Type 0} {g : Ghosts D} → Hub D g → Hub D g → List (HubEvent × Choice) → Type 0
Ran old new [] = IsSound old × IsSound new × Rests old new
Ran {D} {g} old new (e ∷ es) = IsSound old × (mid : Hub D g) × Steps old mid e.0 e.1 × Ran mid new es

-- some run of these events
pub record Runs {D : Type 0} {g : Ghosts D} (old new : Hub D g) (events : List HubEvent) : Type 0 where
  pub choices : List (HubEvent × Choice)
  pub are : map (λ e. e.0) choices ≡ events
  pub by : Ran old new choices

-- some run
abbrev pub HasRun : {D : Type 0} {g : Ghosts D} → Hub D g → Hub D g → Type 0
HasRun old new = (choices : List (HubEvent × Choice)) × Ran old new choices

-- Alone, the event is a run: where it leads on by a choice, it does by one with a failure only where the store stops.
abbrev pub RunsAlone : {D : Type 0} {g : Ghosts D} → Hub D g → Hub D g → HubEvent → Type 0
RunsAlone old new e =
    (c : Choice) → c.failed ≡ has_failed old.engine new.engine
    → ((h : HubState) → StandsFor old h → IsPossible h e c × StandsFor new (hub_step h e c).0)
    → (d : Choice) × ((h : HubState) → StandsFor old h → (hub_step h e d).0 ≡ (hub_step h e c).0)
    × Ran old new ((e, d) ∷ [])

-- no event is a run
abbrev pub NoneRuns : {D : Type 0} {g : Ghosts D} → Hub D g → Type 0
NoneRuns hub = Ran hub hub []

-- What no open transaction needs has gone, or a step of it, by no event. What was kept to check later commits against
-- those that committed before each open one began is asked for no more. Superseded versions go in steps, and so do the
-- runs in which that was kept; `more` says whether garbage is left: once none is, nothing is kept of a commit that is
-- forgotten.
pub record CollectsStep {D : Type 0} {g : Ghosts D} (old new : Hub D g) (more : Bool) : Type 0 where
  pub ran : Ran old new []
  pub versions : (h : HubState) → StandsFor old h
      → IsReclaimedInPart (versions_of old.engine) (versions_of new.engine) (begins h)
  pub more_is : (h : HubState) → StandsFor old h
      → more ≡ nat_lt 0 (garbage_of (begins h) (versions_of new.engine) + garbage_runs (committed_of new.engine))
  pub runs : FreesRuns (committed_of old.engine) (committed_of new.engine)
  pub forgotten : (h : HubState) → StandsFor old h → (n : ℕ) → n ≤ last h.machine
      → AllByRecursion (λ e. n ≤ e.1.begin) h.machine.running → HasForgotten n (facts_of new.engine)
  pub kept : more ≡ false → KeepsNoneUpto (facts_of new.engine).oldest (facts_of new.engine)

-- runs that follow each other are one run
abbrev pub RunsFollow : {D : Type 0} {g : Ghosts D} → Hub D g → Type 0
RunsFollow {D} {g} hub = (old mid new : Hub D g) (es fs : List (HubEvent × Choice)) → Ran old mid es → Ran mid new fs
    → Ran old new (es ++ fs)

-- and a run is two at each of its events
abbrev pub RunsPart : {D : Type 0} {g : Ghosts D} → Hub D g → Type 0
RunsPart {D} {g} hub = (old new : Hub D g) (es fs : List (HubEvent × Choice)) → Ran old new (es ++ fs)
    → (mid : Hub D g) × Ran old mid es × Ran mid new fs

-- what a run leads to from a state that its first hub stood for: the device fails in one event at most
pub record LeadsTo {D : Type 0} {g : Ghosts D} (new : Hub D g) (h : HubState) (choices : List (HubEvent × Choice)) :
    Type 0 where
  pub possible : ArePossible h choices
  pub stands : StandsFor new (run h choices)
  pub lawful : (n : ℕ) → IsLawful (run h (take n choices))
  pub one_failure : failures_in choices ≤ 1
  pub none_then : h.machine.stopped ≡ true → failures_in choices ≡ 0

abbrev pub RunsLead : {D : Type 0} {g : Ghosts D} → Hub D g → Type 0
RunsLead {D} {g} hub = (old new : Hub D g) (es : List (HubEvent × Choice)) → Ran old new es → (h : HubState)
    → StandsFor old h → LeadsTo new h es

-- the bytes of a transaction's own replies
abbrev pub own_bytes : Running → Bytes
own_bytes t = flat_map reply_text t.replies

-- the session's output ends with these bytes
abbrev pub EndsOutput : HubState → ℕ → Bytes → Type 0
EndsOutput h s bytes = (st : SessionStream) × (earlier : Bytes) × (stream_of h s ≡ Some st)
    × (replies_text st ≡ earlier ++ bytes)

-- the same replies, as the same bytes at the end of what the two sessions are sent
pub record IsAnsweredAlike (h k : HubState) (s r : ℕ) (t u : Running) : Type 0 where
  pub replies : t.replies ≡ u.replies
  pub first : EndsOutput h s (own_bytes t)
  pub second : EndsOutput k r (own_bytes t)

-- Two open transactions, of one run or of two, that began with equal maps and asked the same, were answered the same
-- bytes, whatever others did and whatever the device did.
abbrev pub SameBytes : Type 0
SameBytes = (h k : HubState) (s r : ℕ) (t u : Running) → IsLawful h → IsLawful k →
    running_of h.machine s ≡ Some t → running_of k.machine r ≡ Some u →
    snapshot h.machine t ≡ snapshot k.machine u → t.requests ≡ u.requests → IsAnsweredAlike h k s r t u
