-- Runs, event by event.
use Rattle.std.proofs.Common.{◌≡◌, ◌≤◌, ℕ, zero, suc, Bool, true, false, inl, inr, List, [], ◌∷◌, ◌++◌, take, length}
use Rattle.std.proofs.Common.{refl, sym, subst, ◌∙◌, arith, ◌⊎◌}
use Rattle.std.proofs.lemmas.Bool.{both_ways}
use Rattle.std.proofs.lemmas.Grind.{common_steps}
use Rattle.model.specs.Laws.{MachineLaw, PlacesLaw}
use Rattle.model.specs.Machine.{State, step}
use Rattle.model.specs.Operations.{Operation}
use Rattle.sector.specs.SectorModel.{LeavesOnly}
use Rattle.sessions.proofs.EventSteps.{stream-some}
use Rattle.sessions.proofs.FoundMapLaws.{hub-stopped, Survives, goes_on, nothing, one_event, weaker}
use Rattle.sessions.proofs.FoundMapLaws.{law_loses_nothing as survivors_lose_nothing}
pub use Rattle.sessions.proofs.FoundMapLaws.{CountsNow, OnlyNow}
use Rattle.sessions.proofs.StreamLaws.{always, machine_reached, are_streams}
use Rattle.sessions.specs.Calls.{has_failed}
use Rattle.sessions.specs.Crashes.{HoldsBeforeOrAfter, IsLeftByEvent, KeepsCommitted, AppliesWhole, SurvivesEvent}
use Rattle.sessions.specs.Crashes.{ServesCommit, Commits}
use Rattle.sessions.specs.Laws.{IsLawful, IsSound, LeadsTo, Ran, Steps}
use Rattle.sessions.specs.FoundMaps.{HoldsFound}
use Rattle.sessions.specs.SessionStreams.{HubState, HubEvent, Choice, IsPossible, hub_step, run, IsReachedHub}
use Rattle.sessions.specs.StandsFor.{Ghosts, Hub, StandsFor, device, failures, is_stopped}

-- every state that events lead to is lawful
pub lawful_at : MachineLaw → (h : HubState) → IsReachedHub h → IsLawful h
lawful_at law h reached =
    let machine = machine_reached h reached in
    let streams = are_streams h reached in
    record {
      reached = machine;
      isolated = (law h.machine machine).0;
      serializable = (law h.machine machine).1;
      transactions = (always h reached).ends;
      present = streams.present;
      gone = streams.gone;
    }

-- between two events
pub sound : {D : Type 0} {g : Ghosts D} (hub : Hub D g) → MachineLaw → PlacesLaw → (g.keeps_model → KeepsCommitted hub) → IsSound hub
sound hub law places stored = record {
  lawful = λ h s. lawful_at law h s.reached;
  ordered = λ h s. places h.machine (machine_reached h s.reached);
  stored = λ keeps h s up c left. (stored keeps h s).running up c left;
}

-- ---- parts of a run

module _ {D : Type 0} {g : Ghosts D} where
  -- nothing happens
  pub no_event : (hub : Hub D g) → IsSound hub → Ran hub hub []
  no_event hub sound = (sound, sound, record { stands = λ h s. s; device_is = refl; stopped_is = refl })

  pub first_sound : (old new : Hub D g) (es : List (HubEvent × Choice)) → Ran old new es → IsSound old
  first_sound old new [] r = r.0
  first_sound old new (e ∷ es) r = r.0

  -- a hub that rests, and then runs
  rest_then : (old mid new : Hub D g) (fs : List (HubEvent × Choice)) → Ran old mid [] → Ran mid new fs → Ran old new fs
  rest_then old mid new [] p q = grind (arith, common_steps)
  rest_then old mid new (e ∷ fs) p q = let rests = p.2 in let steps = q.2 in (p.0, q.1, grind (arith, common_steps), q.3)

  pub ran_then : (old mid new : Hub D g) (es fs : List (HubEvent × Choice)) → Ran old mid es → Ran mid new fs → Ran old new (es ++ fs)
  ran_then old mid new [] fs p q = rest_then old mid new fs p q
  ran_then old mid new (e ∷ es) fs p q = (p.0, p.1, p.2, ran_then p.1 mid new es fs p.3 q)

  pub ran_parts : (old new : Hub D g) (es fs : List (HubEvent × Choice)) → Ran old new (es ++ fs) → (mid : Hub D g) × Ran old mid es × Ran mid new fs
  ran_parts old new [] fs r = (old, no_event old (first_sound old new fs r), r)
  ran_parts old new (e ∷ es) fs r = let x = ran_parts r.1 new es fs r.3 in (x.0, (r.0, r.1, r.2, x.1), x.2)

  -- ---- what it leads to

  pub ran_stands : (old new : Hub D g) (es : List (HubEvent × Choice)) → Ran old new es → (h : HubState) → StandsFor old h → StandsFor new (run h es)
  ran_stands old new [] r h s = r.2.stands h s
  ran_stands old new (e ∷ es) r h s = ran_stands r.1 new es r.3 (hub_step h e.0 e.1).0 (r.2.leads h s).1

  ran_lawful : (old new : Hub D g) (es : List (HubEvent × Choice)) → Ran old new es → (h : HubState) → StandsFor old h → (n : ℕ) → IsLawful (run h (take n es))
  ran_lawful old new [] r h s (suc n) = r.0.lawful h s
  ran_lawful old new es r h s zero = (first_sound old new es r).lawful h s
  ran_lawful old new (e ∷ es) r h s (suc n) = ran_lawful r.1 new es r.3 (hub_step h e.0 e.1).0 (r.2.leads h s).1 n

  pub leads_to : (old new : Hub D g) (es : List (HubEvent × Choice)) → Ran old new es → (h : HubState) → StandsFor old h → LeadsTo new h es
  leads_to old new [] r h s =
      record { possible = tt; stands = r.2.stands h s; lawful = ran_lawful old new [] r h s; one_failure = omega arith; none_then = λ stop. refl }
  leads_to old new (e ∷ es) r h s =
      let there : StandsFor r.1 (hub_step h e.0 e.1).0 = (r.2.leads h s).1 in
      let rest = leads_to r.1 new es r.3 (hub_step h e.0 e.1).0 there in
      let none = λ (stop : is_stopped r.1 ≡ true). rest.none_then (there.engine.stopped ∙ stop) in
      record {
        possible = ((r.2.leads h s).0, rest.possible);
        stands = rest.stands;
        lawful = ran_lawful old new (e ∷ es) r h s;
        one_failure = grind (arith, common_steps, rest.one_failure, none, r.2.failed);
        none_then = λ stop. grind (arith, common_steps, hub-stopped, both_ways, rest.none_then (hub-stopped h e.0 e.1 stop));
      }

-- ---- crashes

module _ {D : Type 0} {g : Ghosts D} (any : Hub D g) (only_now : OnlyNow D g) (counts_now : CountsNow D g) (keeps : g.keeps_model) where
  pub ran_survives : (old new : Hub D g) (es : List (HubEvent × Choice)) → Ran old new es → (h : HubState) → StandsFor old h → Survives old new h es
  ran_survives old new [] r h s = nothing old new h r.2.device_is only_now s r.0 keeps
  ran_survives old new (e ∷ es) r h s =
      let there : StandsFor r.1 (hub_step h e.0 e.1).0 = (r.2.leads h s).1 in
      goes_on old r.1 new h ((e.0, e.1) ∷ []) es
      (one_event old r.1 h e.0 e.1 counts_now s r.2 keeps (first_sound r.1 new es r.3))
      (ran_survives r.1 new es r.3 (hub_step h e.0 e.1).0 there)

  pub law_loses_nothing : (old mid new : Hub D g) (es fs : List (HubEvent × Choice)) → Ran old mid es → Ran mid new fs → (h : HubState) → StandsFor old h
      → h.machine.stopped ≡ false
      → (c : List (List ℕ)) → g.left_since (device new) (g.moment (device mid)) c → HoldsFound h (es ++ fs) (length es) c
  law_loses_nothing old mid new es fs p q h s up =
      survivors_lose_nothing old mid new h es fs (ran_survives old mid es p h s) (ran_survives mid new fs q (run h es) (ran_stands old mid es p h s)) only_now
      keeps up

pub survives : {D : Type 0} {g : Ghosts D} (old new : Hub D g) (e : HubEvent) → OnlyNow D g → (g.keeps_model → KeepsCommitted old) → SurvivesEvent old new e
    → g.keeps_model → AppliesWhole old new e
survives old new e only_now stored (inl same) keeps h stands = grind (arith, common_steps)
survives {D} {g} old new e only_now stored (inr x) keeps h stands =
    let f = stream-some old h stands x.0 x.1 (sym x.3) in
    let commits : Commits h e x.0 = record { is = x.2; stream = f.stream; present = f.is; serves = subst ServesCommit (sym f.now) x.4 } in
    let run = x.5 keeps h.machine stands.engine in
    grind (arith, common_steps, run, commits)

-- ---- an event in which the device failed, or not

-- the choice with this flag
abbrev flag : Choice → Bool → Choice
flag c b = record { head = c.head; refused = c.refused; failed = b }

-- the flag makes no difference, or the store stops
flagged : (m : State) (s : ℕ) (q : Operation) → (step m s q true ≡ step m s q false) ⊎ ((m.stopped ≡ false) × ((step m s q true).0.stopped ≡ true))
unfolding step
flagged m s q = grind (arith, common_steps)

hub-flagged : (h : HubState) (e : HubEvent) (c : Choice)
    → (hub_step h e (flag c true) ≡ hub_step h e (flag c false)) ⊎ ((h.machine.stopped ≡ false) × ((hub_step h e (flag c true)).0.machine.stopped ≡ true))
unfolding hub_step
hub-flagged h e c = grind (arith, common_steps, flagged)

possible-flag : (h : HubState) (e : HubEvent) (c : Choice) (b : Bool) → IsPossible h e c → IsPossible h e (flag c b)
possible-flag h e c b possible = grind (arith, common_steps)

choice_is : (c : Choice) (b : Bool) → c.failed ≡ b → c ≡ flag c b
choice_is c b e = λ i. record { head = c.head; refused = c.refused; failed = e i }

-- ---- one event

module _ {D : Type 0} {g : Ghosts D} (old new : Hub D g) (e : HubEvent) (sound_old : IsSound old) (sound_new : IsSound new) (counted : failures old
    ≤ failures new) (crash : g.keeps_model → AppliesWhole old new e) (still : is_stopped old ≡ true → device new ≡ device old)
    (c : Choice) (failed_so : c.failed ≡ has_failed old.engine new.engine) (leads : (h : HubState) → StandsFor old h
    → IsPossible h e c × StandsFor new (hub_step h e c).0) where
  abbrev Alone : Type 0
  Alone = (d : Choice) × ((h : HubState) → StandsFor old h → (hub_step h e d).0 ≡ (hub_step h e c).0) × Ran old new ((e, d) ∷ [])

  -- of a store that isn't stopped
  runs : g.keeps_model → (h : HubState) → StandsFor old h → h.machine.stopped ≡ false
      → LeavesOnly g.moment g.left_since (device old) (device new) (HoldsBeforeOrAfter h e)
  runs keeps h s up =
      weaker g.moment g.left_since (device old) (device new) (IsLeftByEvent old h e) (HoldsBeforeOrAfter h e)
      (λ d x. elim x [ inl a ↦ a.1 | inr b ↦ absurd (both_ways h.machine.stopped up b.0) ]) (crash keeps h s)

  -- by a choice that leads to the same
  by_choice : (d : Choice) → ((h : HubState) → StandsFor old h → (hub_step h e d).0 ≡ (hub_step h e c).0)
      → ((h : HubState) → StandsFor old h → IsPossible h e d)
      → (d.failed ≡ true → (has_failed old.engine new.engine ≡ true) × (is_stopped old ≡ false) × (is_stopped new ≡ true)) → Alone
  by_choice d same possible fails =
      let steps : Steps old new e d = grind (arith, common_steps, runs) in
      (d, same, (sound_old, new, steps, no_event new sound_new))

  -- the device failed, and the store did not stop by it: so the flag makes no difference
  quiet : c.failed ≡ true → (is_stopped old ≡ false → is_stopped new ≡ true → ⊥) → Alone
  quiet is apart = by_choice (flag c false) same (λ h s. possible-flag h e c false (leads h s).0) (λ up. (let bad : false ≡ true = up in absurd (cc)))
    where
      same : (h : HubState) → StandsFor old h → (hub_step h e (flag c false)).0 ≡ (hub_step h e c).0
      same h s = grind (arith, common_steps, choice_is, hub-flagged)

  by_flags : (f a b : Bool) → c.failed ≡ f → is_stopped old ≡ a → is_stopped new ≡ b → Alone
  by_flags false a b is first last = by_choice c (λ h s. refl) (λ h s. (leads h s).0) (λ up. absurd (both_ways c.failed is up))
  by_flags true false true is first last = by_choice c (λ h s. refl) (λ h s. (leads h s).0) (λ up. (sym failed_so ∙ up, first, last))
  by_flags true true b is first last = quiet is (λ up stop. both_ways (is_stopped old) up first)
  by_flags true false false is first last = quiet is (λ up stop. both_ways (is_stopped new) last stop)

  pub alone : Alone
  alone = by_flags c.failed (is_stopped old) (is_stopped new) refl refl refl
