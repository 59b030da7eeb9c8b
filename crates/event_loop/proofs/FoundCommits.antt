-- The map that a crash leaves is that after some number of the run's commits, or that with one commit more.
use Rattle.std.proofs.Common.{◌≡◌, ◌≤◌, ◌<◌, ◌+◌, ◌⊎◌, inl, inr, ℕ, zero, suc, nat_le, Bool, true, false, cond, List}
use Rattle.std.proofs.Common.{[], ◌∷◌, ◌++◌, length, length-append, refl, sym, ap, subst, ◌∙◌, arith}
use Rattle.std.proofs.lemmas.Bool.{lt-leb}
use Rattle.std.proofs.lemmas.List.{append-nil}
use Rattle.std.specs.List.{AllByRecursion}
use Rattle.model.proofs.Elements.{all-each}
use Rattle.model.proofs.Members.{commit_low}
use Rattle.model.specs.History.{IsNumberedFrom, Record, map_at}
use Rattle.model.specs.Machine.{State, last}
use Rattle.model.specs.Map.{KeyMap, after_writes}
use Rattle.sector.specs.declared.device.Sectors.{Ghosts}
use Rattle.sessions.proofs.FoundMapLaws.{CommitsBy, commits_in_event, hub-stopped}
use Rattle.sessions.proofs.FoundMapLaws.CommitsBy.{Fails, NoMore, OneMore}
use Rattle.sessions.specs.Laws.{Ran}
use Rattle.sessions.specs.FoundMaps.{MayFind}
use Rattle.sessions.specs.SessionStreams.{HubState, HubEvent, Choice, hub_step, run}
use Rattle.sessions.specs.StandsFor.{StandsFor}
use Rattle.sessions.specs.declared.hub.Hub.{Hub}
use Rattle.event_loop.proofs.Committed.{run_grown}
use Rattle.event_loop.specs.Departures.{IsOneMore, newest_map}

-- ---- histories

pub numbered_front : (n : ℕ) (xs ys : List Record) → IsNumberedFrom n (xs ++ ys) → IsNumberedFrom n xs
numbered_front n [] ys h = tt
numbered_front n (x ∷ xs) ys h = (h.0, numbered_front (suc n) xs ys h.1)

above : (k n : ℕ) (rs : List Record) → k ≤ n → IsNumberedFrom n rs → AllByRecursion (λ r. k < r.commit) rs
above k n [] le h = tt
above k n (r ∷ rs) le h = (let e = h.0 in omega (arith, le), above k (suc n) rs (omega (arith, le)) h.1)

above_rest : (k n : ℕ) (xs ys : List Record) → k ≤ n + length xs → IsNumberedFrom n (xs ++ ys) → AllByRecursion (λ r. k < r.commit) ys
above_rest k n [] ys le h = above k n ys (omega (arith, le)) h
above_rest k n (x ∷ xs) ys le h = above_rest k (suc n) xs ys (omega (arith, le)) h.1

-- the records above a number leave the map as it was
map_none : (base : KeyMap) (rs : List Record) (k : ℕ) → AllByRecursion (λ r. k < r.commit) rs → map_at base rs k ≡ base
map_none base [] k all = refl
map_none base (r ∷ rs) k all =
    ap (λ (b : Bool). map_at (cond b (after_writes base r.writes) base) rs k) (lt-leb r.commit k all.0) ∙ map_none base rs k all.1

map_front : (base : KeyMap) (rs more : List Record) (k : ℕ) → AllByRecursion (λ r. k < r.commit) more → map_at base (rs ++ more) k ≡ map_at base rs k
map_front base [] more k all = map_none base more k all
map_front base (r ∷ rs) more k all = map_front (cond (nat_le r.commit k) (after_writes base r.writes) base) rs more k all

-- ---- one step of the machine

base_by : (m n : State) (f : Bool) → CommitsBy m f n → n.base ≡ m.base
base_by m n f (NoMore base is stopped) = base
base_by m n f (OneMore r up base is stopped) = base
base_by m n f (Fails failed up base is stopped) = base

pub run_base : (h : HubState) (es : List (HubEvent × Choice)) → (run h es).machine.base ≡ h.machine.base
run_base h [] = refl
run_base h (e ∷ es) =
    let next = (hub_step h e.0 e.1).0 in
    run_base next es ∙ base_by h.machine next.machine e.1.failed (commits_in_event h e.0 e.1)

-- a store that is stopped, or stops, commits nothing
stopped_by : (m n : State) (f : Bool) → CommitsBy m f n → m.stopped ≡ true → n.history ≡ m.history
stopped_by m n f (NoMore base is stopped) stop = is
stopped_by m n f (OneMore r up base is stopped) stop = absurd (let bad : true ≡ false = sym stop ∙ up in cc)
stopped_by m n f (Fails failed up base is stopped) stop = is

stops_by : (m n : State) (f : Bool) → CommitsBy m f n → m.stopped ≡ false → n.stopped ≡ true → n.history ≡ m.history
stops_by m n f (NoMore base is stopped) runs stop = is
stops_by m n f (OneMore r up base is stopped) runs stop = absurd (let bad : true ≡ false = sym stop ∙ stopped ∙ up in cc)
stops_by m n f (Fails failed up base is stopped) runs stop = is

stopped_on : (h : HubState) (es : List (HubEvent × Choice)) → h.machine.stopped ≡ true → (run h es).machine.history ≡ h.machine.history
stopped_on h [] stop = refl
stopped_on h (e ∷ es) stop =
    let next = (hub_step h e.0 e.1).0 in
    stopped_on next es (hub-stopped h e.0 e.1 stop) ∙ stopped_by h.machine next.machine e.1.failed (commits_in_event h e.0 e.1) stop

-- ---- what is found

module _ (base : KeyMap) (whole : List Record) (numbered : IsNumberedFrom 0 whole) where
  pub low : (m : State) (more : List Record) → whole ≡ m.history ++ more → AllByRecursion (λ r. r.commit ≤ last m) m.history
  low m more is =
      all-each (λ r. r.commit ≤ 0 + length m.history) (λ r. r.commit ≤ length m.history) m.history (λ r le. omega (arith, le))
      (commit_low 0 m.history (numbered_front 0 m.history more (subst (λ (rs : List Record). IsNumberedFrom 0 rs) is numbered)))

  -- the map that is committed is that after so many of all commits
  map_of : (m : State) → m.base ≡ base → (more : List Record) → whole ≡ m.history ++ more → newest_map m ≡ map_at base whole (last m)
  map_of m same more is =
      let rest = above_rest (last m) 0 m.history more (omega arith) (subst (λ (rs : List Record). IsNumberedFrom 0 rs) is numbered) in
      ap (λ (b : KeyMap). map_at b m.history (last m)) same
      ∙ sym (ap (λ (rs : List Record). map_at base rs (last m)) is ∙ map_front base m.history more (last m) rest)

  -- that after so many commits, these at least, or that with one more
  pub record IsAfter (h : HubState) (es : List (HubEvent × Choice)) (least : ℕ) (map : KeyMap) : Type 0 where
    pub commits : ℕ
    pub least_is : least ≤ commits
    pub found : (map ≡ map_at base whole commits) ⊎ IsOneMore h es commits map

  -- the run had come to the state with one event more
  on : (h : HubState) (e : HubEvent × Choice) (es : List (HubEvent × Choice)) (least more : ℕ) (map : KeyMap) → least ≤ more
      → IsAfter (hub_step h e.0 e.1).0 es more map → IsAfter h (e ∷ es) least map
  on h e es least more map le x = record {
    commits = x.commits;
    least_is = (let low = x.least_is in omega (arith, le, low));
    found = elim x.found [
      | inl is ↦ inl is
      | inr one ↦ inr (e ∷ one.0, one.1, ap (λ (l : List (HubEvent × Choice)). e ∷ l) one.2, one.3, one.4, one.5)
    ];
  }

  since : (h : HubState) (es : List (HubEvent × Choice)) → h.machine.base ≡ base → (run h es).machine.history ≡ whole → (map : KeyMap)
      → MayFind h es zero map → IsAfter h es (last h.machine) map
  since h [] same is map x = record {
    commits = last h.machine;
    least_is = omega arith;
    found = inl (x ∙ map_of h.machine same [] (sym is ∙ sym (append-nil h.machine.history)));
  }
  since h (e ∷ es) same is map x =
      let grown = run_grown h (e ∷ es) in
      elim x [
        | inl now ↦ record {
          commits = last h.machine;
          least_is = omega arith;
          found = inl (now ∙ map_of h.machine same grown.0 (sym is ∙ grown.1));
        }
        | inr y ↦ elim y [
          | inl way ↦ record { commits = last h.machine; least_is = omega arith; found = inr ([], e ∷ es, refl, refl, way.0, way.2) }
          | inr later ↦
              let next = (hub_step h e.0 e.1).0 in
              let one = run_grown h (e ∷ []) in
              let longer : last next.machine ≡ last h.machine + length one.0 =
              ap (λ (rs : List Record). length rs) one.1 ∙ length-append h.machine.history one.0 in
              on h e es (last h.machine) (last next.machine) map (omega (arith, longer))
              (since next es (base_by h.machine next.machine e.1.failed (commits_in_event h e.0 e.1) ∙ same) is map later)
        ]
      ]

  -- a crash after these events were answered
  pub finds : {D : Type 0} {g : Ghosts D} (old new : Hub D g) (before after : List (HubEvent × Choice)) → Ran old new (before ++ after) → (h : HubState)
      → StandsFor old h → h.machine.base ≡ base → (run h (before ++ after)).machine.history ≡ whole → (map : KeyMap)
      → MayFind h (before ++ after) (length before) map → IsAfter h (before ++ after) (last (run h before).machine) map
  finds old new [] after ran h stands same is map x = since h after same is map x
  finds old new (e ∷ es) after ran h stands same is map x =
      let next = (hub_step h e.0 e.1).0 in
      let commits = commits_in_event h e.0 e.1 in
      let led = ran.2.leads h stands in
      elim x [
        | inl fails ↦
            let stopped = ran.2.failed fails.0 in
            let runs : h.machine.stopped ≡ false = stands.engine.stopped ∙ stopped.1 in
            let stop : next.machine.stopped ≡ true = led.1.engine.stopped ∙ stopped.2 in
            let later : (run next es).machine.history ≡ h.machine.history =
            stopped_on next es stop ∙ stops_by h.machine next.machine e.1.failed commits runs stop in
            let same_length : last (run next es).machine ≡ last h.machine = ap (λ (rs : List Record). length rs) later in record {
              commits = last h.machine;
              least_is = omega (arith, same_length);
              found = inr ([], e ∷ (es ++ after), refl, refl, fails.1.0, fails.1.2);
            }
        | inr rest ↦
            on h e (es ++ after) (last (run next es).machine) (last (run next es).machine) map (omega arith)
            (finds ran.1 new es after ran.3 next led.1 (base_by h.machine next.machine e.1.failed commits ∙ same) is map rest)
      ]
