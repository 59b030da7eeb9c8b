-- From hub to hub.
use Rattle.std.proofs.Common.{◌≡◌, ◌≢◌, ℕ, ◌≤◌, arith, List, [], ◌∷◌, ◌++◌, refl, sym, ap, ◌∙◌}
use Rattle.std.proofs.Math.Logic.{∥∥₁_elim}
use Rattle.model.proofs.Leading.{compose, weaken}
use Rattle.engine.specs.Meaning.{has_risen}
use Rattle.sessions.proofs.EventSteps.{status_seen}
use Rattle.sessions.proofs.Reached.{reached}
use Rattle.sessions.specs.Laws.{HasRun, NoneRuns, Ran, RunsAlone}
use Rattle.sessions.specs.SessionStreams.{HubState, HubEvent, Choice, hub_step}
use Rattle.sessions.specs.StandsFor.{StandsFor, HubLeads, failures, status_of}
use Rattle.sessions.specs.declared.events.Outcome.{Outcome}
use Rattle.sessions.specs.declared.events.Status.TheVariants.{Absent}
use Rattle.stream_driver.proofs.Carry.{adds_then}
use Rattle.stream_driver.proofs.Events.{Happens, adds_none, point_after}
use Rattle.stream_driver.specs.Sessions.{Ghosts, Hub, Point, StandsAt, Stands, IsPresent, RunLeads, IsPresentIn}

abbrev pub point_of : {D : Type 0} {g : Ghosts D} → Hub D g → HubState → Point
point_of hub h = record { hub = h; failures = failures hub; events = [] }

pub at_point : {D : Type 0} {g : Ghosts D} (hub : Hub D g) (h : HubState) → StandsFor hub h → StandsAt hub (point_of hub h)
at_point hub h stands = record { state = stands; count = refl }

-- runs that follow each other are one run
abbrev pub Follow : (D : Type 0) → Ghosts D → Type 0
Follow D g = (old mid new : Hub D g) (es fs : List (HubEvent × Choice)) → Ran old mid es → Ran mid new fs → Ran old new (es ++ fs)

-- what leads from one hub to another is a run of the hub
pub are_runs : {D : Type 0} {g : Ghosts D} (a b : Hub D g) (P : Point → Point → Type 0) → RunLeads a b P → HasRun a b
are_runs a b P p = (p.choices, p.ran)

pub has_run : {D : Type 0} {g : Ghosts D} {a b : Hub D g} {P : Point → Point → Type 0} → RunLeads a b P → HasRun a b
has_run p = (p.choices, p.ran)

-- nothing happens
abbrev pub leads_none : {D : Type 0} {g : Ghosts D} (hub : Hub D g) → NoneRuns hub → (P : Point → Point → Type 0) → ((h : Point) → StandsAt hub h → P h h)
    → RunLeads hub hub P
leads_none hub none P f = record { choices = []; ran = none; to = λ h at. (h, at, (adds_none h, f h at)) }

abbrev pub leads_map : {D : Type 0} {g : Ghosts D} (a b : Hub D g) (P Q : Point → Point → Type 0) → RunLeads a b P
    → ((h k : Point) → StandsFor b k.hub → P h k → Q h k) → RunLeads a b Q
leads_map a b P Q p f = record { choices = p.choices; ran = p.ran; to = weaken StandsAt a b _ _ p.to (λ h k at last x. (x.0, f h k last.state x.1)) }

-- with what the hub between stands for
abbrev pub leads_two_at : {D : Type 0} {g : Ghosts D} → Follow D g → (a b c : Hub D g) (P Q R : Point → Point → Type 0) → RunLeads a b P → RunLeads b c Q
    → ((h k l : Point) → StandsFor b k.hub → StandsFor c l.hub → P h k → Q k l → R h l) → RunLeads a c R
leads_two_at follow a b c P Q R p q f = record {
  choices = p.choices ++ q.choices;
  ran = follow a b c p.choices q.choices p.ran q.ran;
  to = compose StandsAt a b c _ _ _ p.to q.to
      (λ h k l at between last x y. (adds_then h k l p.choices q.choices x.0 y.0, f h k l between.state last.state x.1 y.1));
}

pub leads_then : {D : Type 0} {g : Ghosts D} → Follow D g → (a b c : Hub D g) (P Q R : Point → Point → Type 0) → RunLeads a b P → RunLeads b c Q
    → ((h k l : Point) → StandsFor c l.hub → P h k → Q k l → R h l)
    → RunLeads a c R
leads_then follow a b c P Q R p q f = leads_two_at follow a b c P Q R p q (λ h k l was stands x y. f h k l stands x y)

-- one event of the hub
pub leads_event : {D : Type 0} {g : Ghosts D} (b c : Hub D g) (P : Point → Point → Type 0) (e : HubEvent) (outcome : Outcome) (q : HubLeads b c e outcome)
    → RunsAlone b c e → failures b ≤ failures c
    → ((h : Point) → StandsAt b h → Happens h e q.0 (failures c) → outcome ≡ (hub_step h.hub e q.0).1 → StandsFor c (hub_step h.hub e q.0).0
    → P h (point_after h e q.0 (failures c))) → RunLeads b c P
leads_event b c P e outcome q alone counted f =
    let run = alone q.0 q.2 (λ h stands. (let there = reached b c e outcome q h stands in (there.possible, there.stands))) in
    record {
      choices = (e, run.0) ∷ [];
      ran = run.2;
      to = λ h at. (
          let there = reached b c e outcome q h.hub at.state in
          let happens : Happens h e q.0 (failures c) =
          record {
            possible = there.possible;
            counted = (let same = at.count in omega arith);
            failed = q.2 ∙ ap (λ n. has_risen n (failures c)) (sym at.count);
          } in (
            point_after h e q.0 (failures c),
            record { state = there.stands; count = refl },
            (record { run_is = sym (run.1 h.hub at.state); events_are = refl }, f h at happens there.outcome_is there.stands),
          ));
    }

-- what holds in the states that a hub leads to holds, where it is a proposition
pub seen_after : {D : Type 0} {g : Ghosts D} {a b : Hub D g} {P : Point → Point → Type 0} {X : Type 0} → IsProp X → Stands a → RunLeads a b P
    → ((h k : Point) → StandsFor a h.hub → StandsFor b k.hub → P h k → X) → X
seen_after {D} {g} {a} prop some q f = ∥∥₁_elim some prop (λ w. let h = point_of a w.0 in let k = q.to h (at_point a w.0 w.1) in f h k.0 w.1 k.1.state k.2.1)

pub stands_after : {D : Type 0} {g : Ghosts D} {a b : Hub D g} {P : Point → Point → Type 0} → Stands a → RunLeads a b P → Stands b
stands_after some q = seen_after (hlevel) some q (λ h k was stands p. ∣ (k.hub, stands) ∣₁)

pub present_in : {D : Type 0} {g : Ghosts D} {hub : Hub D g} (s : ℕ) {h : HubState} → StandsFor hub h → status_of hub s ≢ Absent → IsPresentIn h s
present_in {D} {g} {hub} s {h} stands present gone = present (status_seen hub h stands s ∙ gone)

pub present_after : {D : Type 0} {g : Ghosts D} {a b : Hub D g} {P : Point → Point → Type 0} (s t : ℕ) → IsPresent a s → RunLeads a b P
    → ((h k : Point) → IsPresentIn h.hub s → P h k → IsPresentIn k.hub t) → IsPresent b t
present_after {D} {g} {a} {b} s t has q f =
    (stands_after has.0 q, seen_after (hlevel) has.0 q (λ h k was stands p gone. f h k (present_in s was has.1) p (sym (status_seen b k.hub stands t) ∙ gone)))
