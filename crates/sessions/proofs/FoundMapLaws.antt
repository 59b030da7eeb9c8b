-- Runs that follow each other, and what a crash leaves of them.
use Rattle.std.proofs.Common.{Option, ◌≡◌, ◌≤◌, ◌+◌, ◌⊎◌, inl, inr, ℕ, zero, suc, Bool, true, false, List, [], ◌∷◌}
use Rattle.std.proofs.Common.{◌++◌, length, length-append, Some, None, refl, sym, ap, subst, ◌∙◌, arith}
use Rattle.std.proofs.lemmas.Bool.{both_ways, cases_Bool}
use Rattle.std.proofs.lemmas.Grind.{common_steps}
use Rattle.model.specs.History.{Record, map_at}
use Rattle.model.specs.Machine.{State, Running, step, step_of, running_of, commit, record_to_commit}
use Rattle.model.specs.Map.{KeyMap}
use Rattle.model.specs.Operations.{Operation, Commit}
use Rattle.sector.specs.SectorModel.{LeavesOnly}
use Rattle.engine.specs.Recovery.{committed_map}
use Rattle.sessions.proofs.StreamLaws.{Moved, Steps, moved}
use Rattle.sessions.specs.Crashes.{HoldsBeforeOrAfter}
use Rattle.sessions.specs.Laws.{IsSound, Steps as StepsBy}
use Rattle.sessions.specs.FoundMaps.{MayFind, HoldsFound, FoundAfter, FoundDuring}
use Rattle.sessions.specs.SessionStreams.{HubState, HubEvent, Choice, hub_step, run}
use Rattle.sessions.specs.StandsFor.{Ghosts, Hub, StandsFor, device}

-- ---- what a step makes of the commits

-- no more, one more, or the device failed in one
pub data CommitsBy (m : State) (f : Bool) (n : State) : Type 0 where
  NoMore : n.base ≡ m.base → n.history ≡ m.history → n.stopped ≡ m.stopped → CommitsBy m f n
  OneMore : (r : Record) → m.stopped ≡ false → n.base ≡ m.base → n.history ≡ m.history ++ r ∷ [] → n.stopped ≡ m.stopped → CommitsBy m f n
  Fails : f ≡ true → m.stopped ≡ false → n.base ≡ m.base → n.history ≡ m.history → n.stopped ≡ true → CommitsBy m f n

-- the same of a COMMIT that makes this record
abbrev Adds : State → Record → Bool → State → Type 0
Adds m r f n = (n.base ≡ m.base)
    × (((n.history ≡ m.history) × (n.stopped ≡ m.stopped)) ⊎ (((m.stopped ≡ false) × (n.history ≡ m.history ++ r ∷ []) × (n.stopped ≡ m.stopped))
    ⊎ ((f ≡ true) × (m.stopped ≡ false) × (n.history ≡ m.history) × (n.stopped ≡ true))))

commit_adds : (m : State) (s : ℕ) (t : Running) (f : Bool) → Adds m (record_to_commit m t) f (commit m s t f).0
commit_adds m s t f = grind (arith, common_steps)

pub commits_in_step : (m : State) (s : ℕ) (q : Operation) (f : Bool) → CommitsBy m f (step m s q f).0
unfolding step
commits_in_step m s q f = by (running_of m s) q
  where
    by : (o : Option Running) (q : Operation) → CommitsBy m f (step_of o m s q f).0
    by None q = grind (arith, common_steps)
    by (Some t) Commit = let x = commit_adds m s t f in elim x.1 [
      | inl a ↦ NoMore x.0 a.0 a.1
      | inr y ↦ elim y [ inl b ↦ OneMore (record_to_commit m t) b.0 x.0 b.1 b.2 | inr d ↦ Fails d.0 d.1 x.0 d.2 d.3 ]
    ]
    by (Some t) other = NoMore refl refl refl

same_map : (m n : State) → n.base ≡ m.base → n.history ≡ m.history → committed_map n ≡ committed_map m
same_map m n b h = ap (λ base. map_at base n.history (length n.history)) b ∙ ap (λ history. map_at m.base history (length history)) h

module _ (h : HubState) (e : HubEvent) (c : Choice) where
  abbrev after : HubState
  after = (hub_step h e c).0

  pub commits_in_event : CommitsBy h.machine c.failed after.machine
  commits_in_event = by_move (moved h e c)
    where
      by_move : {m : State} → Moved c h.machine m → CommitsBy h.machine c.failed m
      by_move (Steps s q) = commits_in_step h.machine s q c.failed
      by_move other = NoMore refl refl refl

  pub hub-stopped : h.machine.stopped ≡ true → after.machine.stopped ≡ true
  hub-stopped stop = grind (arith, common_steps, commits_in_event, both_ways)

  -- an event after which the store is stopped commits nothing
  pub hub-same : after.machine.stopped ≡ true → committed_map after.machine ≡ committed_map h.machine
  hub-same stop = grind (arith, common_steps, commits_in_event, same_map, both_ways)

  -- only the device's failure stops a store
  pub hub-failed : h.machine.stopped ≡ false → after.machine.stopped ≡ true → c.failed ≡ true
  hub-failed up stop = grind (arith, common_steps, commits_in_event, both_ways)

pub stays_stopped : (h : HubState) (es : List (HubEvent × Choice)) → h.machine.stopped ≡ true → (run h es).machine.stopped ≡ true
stays_stopped h [] stop = stop
stays_stopped h (e ∷ es) stop = stays_stopped (hub_step h e.0 e.1).0 es (hub-stopped h e.0 e.1 stop)

-- ---- what may be found

fewer : (h : HubState) (es : List (HubEvent × Choice)) (k : ℕ) (map : KeyMap) → MayFind h es k map → MayFind h es zero map
fewer h (e ∷ es) (suc k) map x = elim x [ inl a ↦ inr (inl a.1) | inr y ↦ inr (inr (fewer (hub_step h e.0 e.1).0 es k map y)) ]
fewer h es n map x = x

earlier : (h : HubState) (es fs : List (HubEvent × Choice)) (k : ℕ) (map : KeyMap) → k ≤ length es → MayFind h es k map → MayFind h (es ++ fs) k map
earlier h [] [] k map le x = x
earlier h [] (f ∷ fs) zero map le x = inl x
earlier h [] (f ∷ fs) (suc k) map le x = absurd (omega (arith, le))
earlier h (e ∷ es) fs zero map le x = grind (arith, common_steps, earlier (hub_step h e.0 e.1).0 es fs zero map (omega arith))
earlier h (e ∷ es) fs (suc k) map le x = elim x [ inl a ↦ inl a | inr y ↦ inr (earlier (hub_step h e.0 e.1).0 es fs k map (omega (arith, le)) y) ]

later : (h : HubState) (es fs : List (HubEvent × Choice)) (k n : ℕ) (map : KeyMap) → n ≡ length es + k → MayFind (run h es) fs k map
    → MayFind h (es ++ fs) n map
later h [] fs k n map is x = let same : k ≡ n = omega (arith, is) in subst (λ i. MayFind h fs i map) same x
later h (e ∷ es) fs k zero map is x = absurd (omega (arith, is))
later h (e ∷ es) fs k (suc n) map is x = inr (later (hub_step h e.0 e.1).0 es fs k n map (omega (arith, is)) x)

idle : (h : HubState) (fs : List (HubEvent × Choice)) (map : KeyMap) → h.machine.stopped ≡ true → map ≡ committed_map h.machine → MayFind h fs (length fs) map
idle h [] map stop x = x
idle h (f ∷ fs) map stop x =
    let there = hub-stopped h f.0 f.1 stop in
    inr (idle (hub_step h f.0 f.1).0 fs map there (x ∙ sym (hub-same h f.0 f.1 there)))

-- a stopped store leaves what there was
rests : (h : HubState) (es fs : List (HubEvent × Choice)) (map : KeyMap) → (run h es).machine.stopped ≡ true → MayFind h es (length es) map
    → MayFind h (es ++ fs) (length (es ++ fs)) map
rests h [] fs map stop x = idle h fs map stop x
rests h (e ∷ es) fs map stop x = elim x [ inl a ↦ inl a | inr y ↦ inr (rests (hub_step h e.0 e.1).0 es fs map stop y) ]

pub found_after : FoundAfter
found_after h [] map x = inl x
found_after h (e ∷ es) map x =
    elim x [ inl a ↦ inr (inl a) | inr y ↦ elim (found_after (hub_step h e.0 e.1).0 es map y) [ inl z ↦ inl z | inr d ↦ inr (inr d) ] ]

pub found_during : FoundDuring
found_during h [] e map x = elim x [ inl a ↦ inl a | inr y ↦ elim y [ inl b ↦ inr (inl b) | inr z ↦ inr (inr (inl z)) ] ]
found_during h (d ∷ es) e map x = grind (arith, common_steps, found_during (hub_step h d.0 d.1).0 es e map)

-- ---- crashes

module _ {D : Type 0} (moment : D → ℕ) (left_since : D → ℕ → List (List ℕ) → Type 0) where
  pub weaker : (old new : D) (P Q : List (List ℕ) → Type 0) → ((c : List (List ℕ)) → P c → Q c) → LeavesOnly moment left_since old new P
      → LeavesOnly moment left_since old new Q
  weaker old new P Q f x = grind (arith, common_steps)

  joined : (old mid new : D) (P : List (List ℕ) → Type 0) → LeavesOnly moment left_since old mid P → LeavesOnly moment left_since mid new P
      → LeavesOnly moment left_since old new P
  joined old mid new P x y = grind (arith, common_steps)

abbrev pub OnlyNow : (D : Type 0) → Ghosts D → Type 0
OnlyNow D g = g.keeps_model → (d : D) (c : List (List ℕ)) → g.left_since d (g.moment d) c → g.may_leave d c

abbrev pub CountsNow : (D : Type 0) → Ghosts D → Type 0
CountsNow D g = g.keeps_model → (d : D) (t : ℕ) (c : List (List ℕ)) → t ≤ g.moment d → g.may_leave d c → g.left_since d t c

-- What the events leave on the device. A store that was stopped leaves the device alone. Else a crash at any moment since the
-- first event leaves such an image, and one after the last leaves the map that is then committed, or that with the COMMIT that
-- the device failed in; of a store that was stopped, what it could have left before.
pub record Survives {D : Type 0} {g : Ghosts D} (old new : Hub D g) (h : HubState) (es : List (HubEvent × Choice)) : Type 0 where
  pub still : h.machine.stopped ≡ true → device new ≡ device old
  pub leaves : h.machine.stopped ≡ false → LeavesOnly g.moment g.left_since (device old) (device new) (HoldsFound h es zero)
  pub now : (c : List (List ℕ)) → g.may_leave (device new) c
      → ((h.machine.stopped ≡ false) × HoldsFound h es (length es) c) ⊎ ((h.machine.stopped ≡ true) × g.may_leave (device old) c)

-- a run and another run
module _ {D : Type 0} {g : Ghosts D} (old mid new : Hub D g) (h : HubState) (es fs : List (HubEvent × Choice)) (first : Survives old mid h es)
    (second : Survives mid new (run h es) fs) where
  abbrev All : List (List ℕ) → Type 0
  All = HoldsFound h (es ++ fs) zero

  holds_first : (c : List (List ℕ)) → HoldsFound h es zero c → All c
  holds_first c x = (x.0, x.1, earlier h es fs zero x.0 (omega arith) x.2)

  holds_second : (c : List (List ℕ)) → HoldsFound (run h es) fs zero c → All c
  holds_second c x = (x.0, x.1, fewer h (es ++ fs) (length es) x.0 (later h es fs zero (length es) x.0 (omega arith) x.2))

  leaves_by : (b : Bool) → (run h es).machine.stopped ≡ b → h.machine.stopped ≡ false → LeavesOnly g.moment g.left_since (device old) (device new) All
  leaves_by b is up = grind (arith, common_steps, weaker, holds_first, joined, holds_second)

  now_by : (b : Bool) → (run h es).machine.stopped ≡ b → h.machine.stopped ≡ false → (c : List (List ℕ)) → g.may_leave (device new) c
      → HoldsFound h (es ++ fs) (length (es ++ fs)) c
  now_by b is up c left = grind (arith, common_steps, rests, later, length-append)

  pub goes_on : Survives old new h (es ++ fs)
  goes_on = grind (arith, common_steps, stays_stopped, leaves_by (run h es).machine.stopped refl, now_by (run h es).machine.stopped refl)

  pub law_loses_nothing : OnlyNow D g → g.keeps_model → h.machine.stopped ≡ false → (c : List (List ℕ)) → g.left_since (device new) (g.moment (device mid)) c
      → HoldsFound h (es ++ fs) (length es) c
  law_loses_nothing only_now keeps up c left = grind (arith, common_steps, cases_Bool (run h es).machine.stopped, first.now, second.now, earlier, later)

-- no event
pub nothing : {D : Type 0} {g : Ghosts D} (hub new : Hub D g) (h : HubState) → device new ≡ device hub → OnlyNow D g → StandsFor hub h → IsSound hub
    → g.keeps_model → Survives hub new h []
nothing hub new h same only_now stands sound keeps = let stored = sound.stored keeps h stands in grind (arith, common_steps)

-- one event
module _ {D : Type 0} {g : Ghosts D} (old new : Hub D g) (h : HubState) (e : HubEvent) (n : Choice) (counts_now : CountsNow D g) (stands : StandsFor old h)
    (steps : StepsBy old new e n) (keeps : g.keeps_model) (sound : IsSound new) where
  abbrev one : List (HubEvent × Choice)
  one = (e, n) ∷ []

  during : (c : List (List ℕ)) → HoldsBeforeOrAfter h e c → HoldsFound h one zero c
  during c x = elim x [
    | inl a ↦ (committed_map h.machine, a, inl refl)
    | inr y ↦ (_, y.2, inr (inl (y.0, y.1, refl)))
  ]

  now_after : (b : Bool) → (hub_step h e n).0.machine.stopped ≡ b → h.machine.stopped ≡ false → (c : List (List ℕ)) → g.may_leave (device new) c
      → HoldsFound h one (suc zero) c
  now_after false runs up c left =
      (committed_map (hub_step h e n).0.machine, sound.stored keeps (hub_step h e n).0 (steps.leads h stands).1 runs c left, inr refl)
  now_after true stop up c left =
      let x = steps.crash keeps h stands up in
      elim (x.each c (counts_now keeps (device new) (g.moment (device old)) c x.later left)) [
        | inl a ↦ (committed_map h.machine, a, inr (sym (hub-same h e n stop)))
        | inr y ↦ (_, y.2, inl (hub-failed h e n up stop, (y.0, y.1, refl)))
      ]

  -- a store that was stopped is left alone, and another leaves what is found after the event
  now_from : (b : Bool) → h.machine.stopped ≡ b → (c : List (List ℕ)) → g.may_leave (device new) c
      → ((h.machine.stopped ≡ false) × HoldsFound h one (suc zero) c) ⊎ ((h.machine.stopped ≡ true) × g.may_leave (device old) c)
  now_from false up c left = inl (up, now_after (hub_step h e n).0.machine.stopped refl up c left)
  now_from true stop c left = inr (stop, subst (λ (d : D). g.may_leave d c) (steps.still (sym stands.engine.stopped ∙ stop)) left)

  pub one_event : Survives old new h one
  one_event = record {
    still = λ stop. steps.still (sym stands.engine.stopped ∙ stop);
    leaves = λ up. weaker g.moment g.left_since (device old) (device new) (HoldsBeforeOrAfter h e) (HoldsFound h one zero) during
        (steps.crash keeps h stands up);
    now = now_from h.machine.stopped refl;
  }
