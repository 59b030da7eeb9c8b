-- The restarts of a store, one after another.
use Rattle.std.proofs.Common.{◌∙◌, arith, ◌≡◌, ℕ, List, [], ◌∷◌, ◌++◌, length, Result, refl, sym, subst, zero, suc}
use Rattle.std.proofs.Common.{false}
use Rattle.std.proofs.lemmas.Grind.{common_steps}
use Rattle.model.specs.Machine.{opened, State, IsReached, Asks, step}
use Rattle.model.specs.Map.{KeyMap}
use Rattle.model.specs.Operations.{Commit}
use Rattle.model.specs.Restarts.{FollowEachOther, RestartLaw}
use Rattle.commit_log.specs.declared.faults.Unopened.{Unopened}
use Rattle.engine.proofs.Steps.{reached_next}
use Rattle.engine.specs.Recovery.{HoldsMap, committed_map}
use Rattle.sessions.proofs.FoundMapLaws.{commits_in_event, commits_in_step}
use Rattle.sessions.proofs.Runs.{CountsNow, OnlyNow, law_loses_nothing, ran_parts}
use Rattle.sessions.proofs.StreamLaws.{machine_reached, moved, reached_moved}
use Rattle.sessions.specs.Laws.{Ran}
use Rattle.sessions.specs.FoundMaps.{MayFind}
use Rattle.sessions.specs.Restarts.{Begins, CutsReopen, EndOfRestart, EndsWith, FollowOn, IsLeftAt, Restart}
use Rattle.sessions.specs.Restarts.{LoseNothing, MapAt, Opens, KeepsAnswered, InOpening, InRun, IsLeftLast}
use Rattle.sessions.specs.OneOrder.{MayComeTo, LeavesStates, ComeTo, HaveOneHistory}
use Rattle.sessions.specs.SessionStreams.{HubState, HubEvent, Choice, hub_over, hub_step}
use Rattle.sessions.specs.StandsFor.{Ghosts, Hub}

-- one image was left
pub cuts_reopen : {D : Type 0} {g : Ghosts D} (hub : Hub D g) → CutsReopen hub
cuts_reopen hub restart dev disk was settled = grind (arith, common_steps)

module _ {D : Type 0} {g : Ghosts D} (any : Hub D g) (only_now : OnlyNow D g) (counts_now : CountsNow D g) (keeps : g.keeps_model) where
  -- what the end of a restart leaves, whose opening ended with this map
  pub left : (dev : D) (result : Result (Hub D g) (Unopened D)) (Left : List (List ℕ) → Type 0) (Maps : KeyMap → Type 0) (map : KeyMap) → Opens dev result
      → EndsWith dev result map
      → ((c : List (List ℕ)) → g.may_leave dev c → Left c) → ((c : List (List ℕ)) → Left c → (m : KeyMap) × Maps m × HoldsMap c m)
      → (ending : EndOfRestart dev result) (c : List (List ℕ)) → IsLeftAt ending c → (next : KeyMap) × MapAt Maps map ending next × HoldsMap c next
  left dev result Left Maps map opens ends may holds InOpening c l = holds c (may c (opens.during.each c l))
  left dev result Left Maps map opens ends may holds (InRun hub answered last es fs is ran more) c l =
      let begins : Begins dev hub map = subst (λ (r : Result (Hub D g) (Unopened D)). EndsWith dev r map) is ends in
      let h = hub_over (opened map begins.used (g.size dev)) in
      let z = law_loses_nothing any only_now counts_now keeps hub answered last es fs ran more h begins.stands refl c l in
      (z.0, (begins, z.2), z.1)

  pub lose_nothing : (restarts : List (Restart D g)) (Left : List (List ℕ) → Type 0) (Maps : KeyMap → Type 0)
      → ((c : List (List ℕ)) → Left c → (m : KeyMap) × Maps m × HoldsMap c m) → FollowOn Left restarts
      → LoseNothing Maps restarts
  lose_nothing [] Left Maps holds follow = tt
  lose_nothing (restart ∷ restarts) Left Maps holds follow =
      let found = holds follow.0.image follow.0.was_left in
      let ends : EndsWith restart.dev restart.result found.0 = restart.opens.ends follow.0.image found.0 follow.0.size_is follow.0.read found.2 in
      let leaves = left restart.dev restart.result Left Maps found.0 restart.opens ends follow.0.left holds restart.ending in (
        found.0,
        record { was = found.1; opening = ends; leaves = leaves },
        lose_nothing restarts (IsLeftAt restart.ending) (MapAt Maps found.0 restart.ending) leaves follow.1,
      )

  pub from_disk : (disk : List (List ℕ)) (map : KeyMap) (restarts : List (Restart D g)) → HoldsMap disk map → FollowOn (λ c. c ≡ disk) restarts
      → LoseNothing (λ m. m ≡ map) restarts
  from_disk disk map restarts holds follow =
      lose_nothing restarts (λ c. c ≡ disk) (λ m. m ≡ map) (λ c is. (map, refl, subst (λ (d : List (List ℕ)). HoldsMap d map) (sym is) holds)) follow

-- what a process has answered
pub keeps_answered : {D : Type 0} {g : Ghosts D} (hub : Hub D g) → OnlyNow D g → CountsNow D g → KeepsAnswered hub
keeps_answered {D} {g} hub only_now counts_now keeps served es fs is =
    let parts = ran_parts served.first hub es fs (subst (λ (xs : List (HubEvent × Choice)). Ran served.first hub xs) is served.ran) in
    let h : HubState = hub_over (opened served.start.map served.start.begins.used (g.size served.start.dev)) in (
      parts.0,
      parts.1,
      parts.2,
      law_loses_nothing hub only_now counts_now keeps served.first parts.0 hub es fs parts.1 parts.2 h served.start.begins.stands
          refl,
    )

-- ---- what was committed in all of them has one order

-- a state whose map a crash may leave
comes_to : (h : HubState) (es : List (HubEvent × Choice)) (n : ℕ) (map : KeyMap) → MayFind h es n map
    → (st : State) × MayComeTo h es n st × (map ≡ committed_map st)
comes_to h [] n map x = (h.machine, refl, x)
comes_to h (e ∷ es) zero map x = grind (arith, common_steps, comes_to (hub_step h e.0 e.1).0 es zero map)
comes_to h (e ∷ es) (suc n) map x = grind (arith, common_steps, comes_to (hub_step h e.0 e.1).0 es n map)

-- ---- such a state is reached over the same base

record IsOver (m st : State) : Type 0 where
  reached : IsReached st
  base : st.base ≡ m.base

over_event : (h : HubState) (e : HubEvent) (c : Choice) → IsReached h.machine → IsOver h.machine (hub_step h e c).0.machine
over_event h e c r = record { reached = reached_moved c h.machine _ r (moved h e c); base = grind (arith, common_steps, commits_in_event h e c) }

over_commit : (m : State) (s : ℕ) → IsReached m → IsOver m (step m s Commit false).0
over_commit m s r = record { reached = reached_next m (Asks s Commit false) r; base = grind (arith, common_steps, commits_in_step m s Commit false) }

over_same : (m st : State) → IsReached m → st ≡ m → IsOver m st
over_same m st r e = subst (IsOver m) (sym e) (record { reached = r; base = refl })

over_after : (m n st : State) → IsOver m n → IsOver n st → IsOver m st
over_after m n st x y = record { reached = y.reached; base = y.base ∙ x.base }

is_over : (h : HubState) (es : List (HubEvent × Choice)) (n : ℕ) (st : State) → IsReached h.machine → MayComeTo h es n st → IsOver h.machine st
is_over h [] n st r x = over_same h.machine st r x
is_over h (e ∷ es) zero st r x =
    let m = over_event h e.0 e.1 r in
    grind (
      arith,
      common_steps,
      over_same h.machine st r,
      over_commit,
      over_after h.machine (hub_step h e.0 e.1).0.machine st m,
      is_over (hub_step h e.0 e.1).0 es zero st m.reached,
    )
is_over h (e ∷ es) (suc n) st r x =
    let m = over_event h e.0 e.1 r in
    grind (arith, common_steps, over_commit, over_after h.machine (hub_step h e.0 e.1).0.machine st m, is_over (hub_step h e.0 e.1).0 es n st m.reached)

-- ---- restarts

-- what a restart came to whose end left this map; where it ended in the opening, the map is one of before it
abbrev CameFrom : {D : Type 0} {g : Ghosts D} {dev : D} {result : Result (Hub D g) (Unopened D)} → (KeyMap → Type 0) → EndOfRestart dev result → KeyMap → Type 0
CameFrom Maps ending next = (map : KeyMap) × Maps map × (own : List State) × LeavesStates ending map own next

came : {D : Type 0} {g : Ghosts D} (dev : D) (result : Result (Hub D g) (Unopened D)) (Maps : KeyMap → Type 0) (map next : KeyMap) → Maps map
    → (ending : EndOfRestart dev result) → MapAt Maps map ending next → CameFrom Maps ending next
came dev result Maps map next was InOpening is = (next, is, [], (refl, refl))
came {D} {g} dev result Maps map next was (InRun hub answered last es fs ok ran more) is =
    let c = comes_to (hub_over (opened map is.0.used (g.size dev))) (es ++ fs) (length es) next is.1 in
    (map, was, c.0 ∷ [], (is.0, c.0, refl, c.1, c.2))

-- before the states to which the later restarts came
before : {D : Type 0} {g : Ghosts D} (dev : D) (result : Result (Hub D g) (Unopened D)) (map next found : KeyMap) (own rest : List State)
    (ending : EndOfRestart dev result) →
    LeavesStates ending map own next → FollowEachOther next rest found → FollowEachOther map (own ++ rest) found
before dev result map next found own rest ending comes follow = grind (arith, common_steps, is_over, machine_reached)

-- the states to which the restarts came
record Story {D : Type 0} {g : Ghosts D} (map : KeyMap) (disk : List (List ℕ)) (restarts : List (Restart D g)) : Type 0 where
  states : List State
  found : KeyMap
  came_to : ComeTo map disk restarts states found
  follow : FollowEachOther map states found

module _ {D : Type 0} {g : Ghosts D} (any : Hub D g) (only_now : OnlyNow D g) (counts_now : CountsNow D g) (keeps : g.keeps_model) where
  came_to_all : (restarts : List (Restart D g)) (Left : List (List ℕ) → Type 0) (Maps : KeyMap → Type 0)
      → ((c : List (List ℕ)) → Left c → (m : KeyMap) × Maps m × HoldsMap c m) → FollowOn Left restarts
      → (last : List (List ℕ)) → IsLeftLast Left restarts last → (map : KeyMap) × Maps map × Story map last restarts
  came_to_all [] Left Maps holds follow last l = let m = holds last l in
      (m.0, m.1, record { states = []; found = m.0; came_to = (refl, refl, m.2); follow = refl })
  came_to_all (restart ∷ restarts) Left Maps holds follow last l =
      let found = holds follow.0.image follow.0.was_left in
      let ends : EndsWith restart.dev restart.result found.0 = restart.opens.ends follow.0.image found.0 follow.0.size_is follow.0.read found.2 in
      let leaves = left any only_now counts_now keeps restart.dev restart.result Left Maps found.0 restart.opens ends follow.0.left holds restart.ending in
      let rest = came_to_all restarts (IsLeftAt restart.ending) (MapAt Maps found.0 restart.ending) leaves follow.1 last l in
      let own = came restart.dev restart.result Maps found.0 rest.0 found.1 restart.ending rest.1 in (
        own.0,
        own.1,
        record {
          states = own.2 ++ rest.2.states;
          found = rest.2.found;
          came_to = (own.2, rest.2.states, rest.0, refl, own.3, rest.2.came_to);
          follow = before restart.dev restart.result own.0 rest.0 rest.2.found own.2 rest.2.states restart.ending own.3 rest.2.follow;
        },
      )

  pub one_history : RestartLaw → (disk last : List (List ℕ)) (map : KeyMap) (restarts : List (Restart D g)) → HoldsMap disk map
      → FollowOn (λ c. c ≡ disk) restarts → IsLeftLast (λ c. c ≡ disk) restarts last → HaveOneHistory map last restarts
  one_history law disk last map restarts holds follow l =
      let came_from = came_to_all restarts (λ c. c ≡ disk) (λ m. m
      ≡ map) (λ c is. (map, refl, subst (λ (d : List (List ℕ)). HoldsMap d map) (sym is) holds)) follow last l in
      let story : Story map last restarts = subst (λ (m : KeyMap). Story m last restarts) came_from.1 came_from.2 in
      record { states = story.states; found = story.found; came = story.came_to; order = law map story.states story.found story.follow }
