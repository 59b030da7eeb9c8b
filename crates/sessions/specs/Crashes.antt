-- What a crash at an event leaves on the device.
use Rattle.std.specs.BTreeMap.{is_at}
use Rattle.std.specs.Map.{lookup}
use Rattle.std.specs.Ordering.{nat_cmp}
use Rattle.std.specs.Prelude.{◌≡◌, ◌⊎◌, ℕ, false, true, List, Some}
use Rattle.model.specs.Machine.{step}
use Rattle.model.specs.Map.{Bytes}
use Rattle.model.specs.Operations.{Operation, Commit}
use Rattle.sector.specs.SectorModel.{LeavesOnly}
use Rattle.engine.specs.Meaning.{device_of}
pub use Rattle.engine.specs.Meaning.{SurvivesCommit}
use Rattle.engine.specs.Recovery.{HoldsMap, LeavesCommitted, committed_map}
use Rattle.engine.specs.declared.engine.Engine.{Engine}
use Rattle.sessions.specs.SessionStreams.{HubState, HubEvent, Serves, SessionState, SessionStream, Whole, IsHead}
use Rattle.sessions.specs.SessionStreams.{asks, may_serve, stream_of}
use Rattle.sessions.specs.StandsFor.{Ghosts, Hub, StandsFor, device}

-- the device is as it was, or the request is a COMMIT
abbrev pub SurvivesRequest : {D : Type 0} {g : Ghosts D} → Engine D g → Engine D g → ℕ → Operation → Type 0
SurvivesRequest old new s q = (device_of new ≡ device_of old) ⊎ ((q ≡ Commit) × SurvivesCommit old new s)

-- a COMMIT stands at the head of these bytes
pub record BeginsWithCommit (inbox : Bytes) : Type 0 where
  pub parts : List Bytes
  pub used : ℕ
  pub head : IsHead inbox (Whole parts used)
  pub asked : asks parts ≡ Commit

abbrev pub SurvivesHead : {D : Type 0} {g : Ghosts D} → Engine D g → Engine D g → ℕ → Bytes → Type 0
SurvivesHead old new s inbox = (device_of new ≡ device_of old) ⊎ (BeginsWithCommit inbox × SurvivesCommit old new s)

-- a Serve of this session executes a COMMIT
pub record ServesCommit (n : SessionState) : Type 0 where
  pub may : may_serve n ≡ true
  pub commit : BeginsWithCommit n.inbox

abbrev pub SurvivesServe : {D : Type 0} {g : Ghosts D} → Engine D g → Engine D g → ℕ → SessionState → Type 0
SurvivesServe old new s n = (device_of new ≡ device_of old) ⊎ (ServesCommit n × SurvivesCommit old new s)

abbrev pub SurvivesEvent : {D : Type 0} {g : Ghosts D} → Hub D g → Hub D g → HubEvent → Type 0
SurvivesEvent old new e =
    (device new ≡ device old)
    ⊎ ((s : ℕ) × (n : SessionState) × (e ≡ Serves s) × (lookup (is_at (nat_cmp s)) old.sessions ≡ Some n)
    × ServesCommit n × SurvivesCommit old.engine new.engine s)

-- the event executes a COMMIT of this session
pub record Commits (h : HubState) (e : HubEvent) (s : ℕ) : Type 0 where
  pub is : e ≡ Serves s
  pub stream : SessionStream
  pub present : stream_of h s ≡ Some stream
  pub serves : ServesCommit stream.now

-- the image holds the map committed before the event or, where this executes a COMMIT, that with the transaction's
-- writes
abbrev pub HoldsBeforeOrAfter : HubState → HubEvent → List (List ℕ) → Type 0
HoldsBeforeOrAfter h e c =
    HoldsMap c (committed_map h.machine)
    ⊎ ((s : ℕ) × Commits h e s × HoldsMap c (committed_map (step h.machine s Commit false).0))

-- what a crash may leave at a moment of the event: such an image; of a store that was stopped, what it could have left
-- before
abbrev pub IsLeftByEvent : {D : Type 0} {g : Ghosts D} → Hub D g → HubState → HubEvent → List (List ℕ) → Type 0
IsLeftByEvent {D} {g} old h e c =
    ((h.machine.stopped ≡ false) × HoldsBeforeOrAfter h e c) ⊎ ((h.machine.stopped ≡ true) × g.may_leave (device old) c)

-- a crash at any moment of the event leaves only that
abbrev pub AppliesWhole : {D : Type 0} {g : Ghosts D} → Hub D g → Hub D g → HubEvent → Type 0
AppliesWhole {D} {g} old new e = (h : HubState) → StandsFor old h
    → LeavesOnly g.moment g.left_since (device old) (device new) (IsLeftByEvent old h e)

-- a crash now leaves the map that is committed; once the store is stopped, that or the one with the writes of the
-- COMMIT that was answered a store fault
abbrev pub KeepsCommitted : {D : Type 0} {g : Ghosts D} → Hub D g → Type 0
KeepsCommitted {D} {g} hub = (h : HubState) → StandsFor hub h → LeavesCommitted h.machine (g.may_leave (device hub))
