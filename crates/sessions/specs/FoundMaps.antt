-- What may be found after a crash of a whole run of events.
use Rattle.std.specs.Prelude.{◌≡◌, ◌⊎◌, ℕ, zero, suc, true, false, List, [], ◌∷◌, ◌++◌, length}
use Rattle.model.specs.Machine.{step}
use Rattle.model.specs.Map.{KeyMap}
use Rattle.model.specs.Operations.{Commit}
use Rattle.engine.specs.Recovery.{HoldsMap, committed_map}
use Rattle.sessions.specs.Crashes.{Commits}
use Rattle.sessions.specs.Laws.{Ran}
use Rattle.sessions.specs.SessionStreams.{HubState, HubEvent, Choice, hub_step, run}
use Rattle.sessions.specs.StandsFor.{Ghosts, Hub, StandsFor, device}

-- the map that the COMMIT makes which the event executes
abbrev pub IsUnderWay : HubState → HubEvent → KeyMap → Type 0
IsUnderWay h e map = (s : ℕ) × Commits h e s × (map ≡ committed_map (step h.machine s Commit false).0)

-- The maps that a crash may leave once so many of the events were answered: the one committed then or at a later moment
-- of the run, one with a COMMIT that was under way since, or one with a COMMIT before it that the device failed in.
abbrev pub MayFind : HubState → List (HubEvent × Choice) → ℕ → KeyMap → Type 0
MayFind h [] answered map = map ≡ committed_map h.machine
MayFind h (e ∷ es) zero map =
    (map ≡ committed_map h.machine) ⊎ (IsUnderWay h e.0 map ⊎ MayFind (hub_step h e.0 e.1).0 es zero map)
MayFind h (e ∷ es) (suc answered) map =
    ((e.1.failed ≡ true) × IsUnderWay h e.0 map) ⊎ MayFind (hub_step h e.0 e.1).0 es answered map

-- the image holds such a map
abbrev pub HoldsFound : HubState → List (HubEvent × Choice) → ℕ → List (List ℕ) → Type 0
HoldsFound h es answered c = (map : KeyMap) × HoldsMap c map × MayFind h es answered map

-- the map with a COMMIT of the run that the device failed in
abbrev pub IsMapInDoubt : HubState → List (HubEvent × Choice) → KeyMap → Type 0
IsMapInDoubt h [] map = ⊥
IsMapInDoubt h (e ∷ es) map = ((e.1.failed ≡ true) × IsUnderWay h e.0 map) ⊎ IsMapInDoubt (hub_step h e.0 e.1).0 es map

-- once each event was answered, the map is the one that is committed, or it is in doubt
abbrev pub FoundAfter : Type 0
FoundAfter = (h : HubState) (es : List (HubEvent × Choice)) (map : KeyMap) → MayFind h es (length es) map
    → (map ≡ committed_map (run h es).machine) ⊎ IsMapInDoubt h es map

-- during one event more, it is also the one with the COMMIT that this executes, or the one committed after it
abbrev pub FoundDuring : Type 0
FoundDuring =
    (h : HubState) (es : List (HubEvent × Choice)) (e : HubEvent × Choice) (map : KeyMap)
    → MayFind h (es ++ e ∷ []) (length es) map →
    (map ≡ committed_map (run h es).machine)
    ⊎ (IsUnderWay (run h es) e.0 map ⊎ ((map ≡ committed_map (run h (es ++ e ∷ [])).machine) ⊎ IsMapInDoubt h es map))

-- A crash at any moment after some events of a run were answered, during the events that follow or after them, leaves
-- no map that is older than the one committed when they were answered.
abbrev pub LosesNothing : {D : Type 0} {g : Ghosts D} → Hub D g → Type 0
LosesNothing {D} {g} hub =
    g.keeps_model → (old mid new : Hub D g) (es fs : List (HubEvent × Choice)) → Ran old mid es → Ran mid new fs
    → (h : HubState) → StandsFor old h → h.machine.stopped ≡ false
    → (c : List (List ℕ)) → g.left_since (device new) (g.moment (device mid)) c → HoldsFound h (es ++ fs) (length es) c
