-- What was committed in all restarts of a store has one order.
use Rattle.std.specs.Prelude.{◌≡◌, ◌⊎◌, ℕ, zero, suc, true, false, List, [], ◌∷◌, ◌++◌, length, Result}
use Rattle.model.specs.Machine.{State, opened, step}
use Rattle.model.specs.Map.{KeyMap}
use Rattle.model.specs.Operations.{Commit}
use Rattle.model.specs.Restarts.{HaveOneOrder}
use Rattle.commit_log.specs.declared.faults.Unopened.{Unopened}
use Rattle.engine.specs.Recovery.{HoldsMap, committed_map}
use Rattle.sessions.specs.Crashes.{Commits}
use Rattle.sessions.specs.Restarts.{Begins, EndOfRestart, FollowOn, IsLeftLast, Restart, InOpening, InRun}
use Rattle.sessions.specs.SessionStreams.{HubState, HubEvent, Choice, hub_over, hub_step}
use Rattle.sessions.specs.StandsFor.{Ghosts, Hub}

-- the machine's state after the COMMIT that the event executes
abbrev pub IsAfterCommit : HubState → HubEvent → State → Type 0
IsAfterCommit h e st = (s : ℕ) × Commits h e s × (st ≡ (step h.machine s Commit false).0)

-- The states whose map a crash may leave once so many of the events were answered: as `MayFind` says it of the maps.
abbrev pub MayComeTo : HubState → List (HubEvent × Choice) → ℕ → State → Type 0
MayComeTo h [] answered st = st ≡ h.machine
MayComeTo h (e ∷ es) zero st = (st ≡ h.machine) ⊎ (IsAfterCommit h e.0 st ⊎ MayComeTo (hub_step h e.0 e.1).0 es zero st)
MayComeTo h (e ∷ es) (suc answered) st =
    ((e.1.failed ≡ true) × IsAfterCommit h e.0 st) ⊎ MayComeTo (hub_step h e.0 e.1).0 es answered st

-- A restart that ended in its opening committed nothing, and leaves the map of before it. One that ended in a run of
-- its hub, which began with this map, leaves the map of such a state.
abbrev pub LeavesStates : {D : Type 0} {g : Ghosts D} {dev : D} {result : Result (Hub D g) (Unopened D)}
    → EndOfRestart dev result → KeyMap → List State → KeyMap → Type 0
LeavesStates InOpening map states next = (states ≡ []) × (next ≡ map)
LeavesStates {D} {g} {dev} (InRun hub answered last es fs is ran more) map states next =
    (begins : Begins dev hub map) × (st : State) × (states ≡ st ∷ [])
    × MayComeTo (hub_over (opened map begins.used (g.size dev))) (es ++ fs) (length es) st
    × (next ≡ committed_map st)

-- from the first map on, the restarts came to these states, one after another, and the last of them left the map that
-- this image holds
abbrev pub ComeTo : {D : Type 0} {g : Ghosts D} → KeyMap → List (List ℕ) → List (Restart D g) → List State → KeyMap
    → Type 0
ComeTo map disk [] states found = (states ≡ []) × (found ≡ map) × HoldsMap disk found
ComeTo map disk (restart ∷ restarts) states found =
    (own rest : List State) × (next : KeyMap) × (states ≡ own ++ rest) × LeavesStates restart.ending map own next
    × ComeTo next disk restarts rest found

-- one order of all that was committed in the restarts gives each transaction the replies that it had, and then the map
-- found
pub record HaveOneHistory {D : Type 0} {g : Ghosts D} (map : KeyMap) (disk : List (List ℕ))
    (restarts : List (Restart D g)) : Type 0 where
  pub states : List State
  pub found : KeyMap
  pub came : ComeTo map disk restarts states found
  pub order : HaveOneOrder map states found

-- of any number of restarts, from the image of any map, and for each image that the end of the last may leave
abbrev pub RestartsHaveOneHistory : {D : Type 0} {g : Ghosts D} → Hub D g → Type 0
RestartsHaveOneHistory {D} {g} hub =
    (disk last : List (List ℕ)) (map : KeyMap) (restarts : List (Restart D g)) → HoldsMap disk map
    → FollowOn (λ c. c ≡ disk) restarts → IsLeftLast (λ c. c ≡ disk) restarts last → HaveOneHistory map last restarts
