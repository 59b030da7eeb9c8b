-- What left over a stream was answered before, from run to run.
use Rattle.std.proofs.Common.{◌≡◌, ◌≤◌, ◌⊎◌, inl, inr, ℕ, List, [], ◌++◌, Some, take, drop, refl, sym, ap, subst, ◌∙◌}
use Rattle.std.proofs.Common.{append_assoc}
use Rattle.std.proofs.lemmas.List.{append-nil, take-append-drop}
use Rattle.std.specs.List.{AllByRecursion}
use Rattle.model.proofs.Elements.{all-each, all-append}
use Rattle.sessions.proofs.EventSteps.{pending_seen}
use Rattle.sessions.specs.Laws.{NoneRuns, Ran, RunsAlone}
use Rattle.sessions.specs.SessionStreams.{HubState, HubEvent, Choice, SessionStream, hub_step, run, stream_of}
use Rattle.sessions.specs.StandsFor.{StandsFor, HubLeads, device, failures, pending_in, pending_of}
use Rattle.sessions.specs.declared.events.Outcome.{Outcome}
use Rattle.stream_driver.proofs.Carry.{and_then, grown, one_history, run_then}
use Rattle.stream_driver.proofs.Events.{Happens, point_after}
use Rattle.stream_driver.proofs.States.{Follow, at_point, leads_event, leads_map, leads_two_at, point_of}
use Rattle.stream_driver.specs.Drives.{Carried}
use Rattle.stream_driver.specs.Sends.{IsAnswered, WasAnsweredBefore, WereAnsweredBefore, HasSent, LeadsAnswering}
use Rattle.stream_driver.specs.Sessions.{Ghosts, Hub, RunLeads, Point}
use Rattle.stream_driver.specs.Traffic.{Departure, DepartAt, IsBeginning, Traffic}

module _ (s : ℕ) (h : HubState) (es fs : List (HubEvent × Choice)) (bytes : List ℕ) where
  -- what was answered stays so
  pub answered_since : IsAnswered s h es bytes → IsAnswered s h (es ++ fs) bytes
  answered_since a = search (ap (λ l. l ++ fs) a.events_are ∙ append_assoc a.by a.since fs)

  -- others had come before
  pub answered_then : IsAnswered s (run h es) fs bytes → IsAnswered s h (es ++ fs) bytes
  answered_then a = search (ap (λ l. es ++ l) a.events_are ∙ sym (append_assoc es a.by a.since), ap (λ v. stream_of v s) (run_then h es a.by) ∙ a.stream_is)

-- first some events, then others, in each of which nothing was sent or all that was sent was answered
pub answered_on : {s : ℕ} {h : HubState} {es fs : List (HubEvent × Choice)} {before between after : List ℕ} → (between ≡ before) ⊎ IsAnswered s h es between
    → (after ≡ between) ⊎ IsAnswered s (run h es) fs after
    → (after ≡ before) ⊎ IsAnswered s h (es ++ fs) after
answered_on {s} {h} {es} {fs} {before} {between} {after} first (inr then) = inr (answered_then s h es fs after then)
answered_on {s} {h} {es} {fs} {before} {between} {after} (inl none) (inl same) = inl (same ∙ none)
answered_on {s} {h} {es} {fs} {before} {between} {after} (inr some) (inl same) = inr (rw same (answered_since s h es fs between some))

module _ {D : Type 0} {g : Ghosts D} (s : ℕ) (h : HubState) where
  -- more events came since
  pub all_since : Follow D g → (a b c : Hub D g) (es fs : List (HubEvent × Choice)) → Ran b c fs → (ds : List Departure)
      → AllByRecursion (WasAnsweredBefore s h a b es) ds → AllByRecursion (WasAnsweredBefore s h a c (es ++ fs)) ds
  all_since follow a b c es fs ran ds = all-each (WasAnsweredBefore s h a b es) (WasAnsweredBefore s h a c (es ++ fs)) ds
      (λ d t. search (ap (λ l. l ++ fs) t.events_are ∙ append_assoc t.before t.since fs, follow t.hub b c t.since fs t.goes_on ran))

  -- others had come before
  pub all_before : Follow D g → (a b c : Hub D g) (es fs : List (HubEvent × Choice)) → Ran a b es → (ds : List Departure)
      → AllByRecursion (WasAnsweredBefore s (run h es) b c fs) ds
      → AllByRecursion (WasAnsweredBefore s h a c (es ++ fs)) ds
  all_before follow a b c es fs ran ds = all-each (WasAnsweredBefore s (run h es) b c fs) (WasAnsweredBefore s h a c (es ++ fs)) ds
      (λ d t. search (
        ap (λ l. es ++ l) t.events_are ∙ sym (append_assoc es t.before t.since),
        follow a b t.hub es t.before ran t.came,
        answered_then s h es t.before d.bytes t.was_answered,
      ))

  -- nothing left
  pub none_left : (a b : Hub D g) (es : List (HubEvent × Choice)) (before after : Traffic) → after.departed ≡ before.departed
      → WereAnsweredBefore s h a b es before after
  none_left a b es before after e = record { departures = []; departed_are = e ∙ sym (append-nil before.departed); each = tt }

  pub more_since : Follow D g → (a b c : Hub D g) (es fs : List (HubEvent × Choice)) → Ran b c fs → (t u : Traffic) → WereAnsweredBefore s h a b es t u
      → WereAnsweredBefore s h a c (es ++ fs) t u
  more_since follow a b c es fs ran t u p =
      record { departures = p.departures; departed_are = p.departed_are; each = all_since follow a b c es fs ran p.departures p.each }

  -- one part of the run after the other
  pub all_were_answered_then : Follow D g → (a b c : Hub D g) (es fs : List (HubEvent × Choice)) → Ran a b es → Ran b c fs → (t u v : Traffic)
      → WereAnsweredBefore s h a b es t u → WereAnsweredBefore s (run h es) b c fs u v → WereAnsweredBefore s h a c (es ++ fs) t v
  all_were_answered_then follow a b c es fs first second t u v p q =
      let each = all-append (WasAnsweredBefore s h a c (es ++ fs)) p.departures q.departures (all_since follow a b c es fs second p.departures p.each)
      (all_before follow a b c es fs first q.departures q.each) in
      search (grown t.departed u.departed u.departed v.departed p.departures q.departures p.departed_are refl q.departed_are, each)

-- what was sent over the stream is what was reported as sent, after a run over it too
pub sent_after : (s : ℕ) (reports : Type 0) (h : Point) (t : Traffic) (k : Point) (u : Traffic) → Carried s reports h t k u → reports → HasSent s h.hub t
    → HasSent s k.hub u
sent_after s reports h t k u c is has =
    let same : has.stream ≡ c.runs.first = one_history has.stream c.runs.first (sym has.stream_is ∙ c.runs.first_is) in
    search (c.runs.last_is, c.sent is ∙ ap (λ l. l ++ c.runs.history.sent) (has.sent ∙ ap (λ (x : SessionStream). x.sent) same) ∙ sym c.runs.history.sent_is)

pub begins_sent : (n : ℕ) (all : List ℕ) → IsBeginning (take n all) all
begins_sent n all = record { rest = drop n all; all_is = sym (take-append-drop n all) }

pub begins_nothing : (all : List ℕ) → IsBeginning [] all
begins_nothing all = record { rest = all; all_is = refl }

pub begins_all : (bytes pending answered sent took : List ℕ) → IsBeginning bytes pending → sent ≡ answered → took ≡ sent ++ bytes
    → IsBeginning took (answered ++ pending)
begins_all bytes pending answered sent took b is e = record { rest = b.rest; all_is = rw (b.all_is, e, is, append_assoc) }

pub begins_through : (bytes mid all : List ℕ) → IsBeginning bytes mid → IsBeginning mid all → IsBeginning bytes all
begins_through bytes mid all a b = record { rest = a.rest ++ b.rest; all_is = b.all_is ∙ ap (λ l. l ++ b.rest) a.all_is ∙ append_assoc bytes a.rest b.rest }

-- what was reported as sent to the session by now, and what is pending, was answered
answered_now : (s : ℕ) (h : HubState) (es : List (HubEvent × Choice)) (bytes : List ℕ) (st : SessionStream) → stream_of h s ≡ Some st
    → IsBeginning bytes (st.sent ++ st.now.pending) → IsAnswered s h es bytes
answered_now s h es bytes st is begins = record { by = []; since = es; events_are = refl; stream = st; stream_is = is; answered = begins }

module _ {D : Type 0} {g : Ghosts D} {s : ℕ} {reports : Type 0} where
  -- the stream was not called
  pub reports_still : {a b : Hub D g} {t : Traffic} {P : Point → Point → Type 0} → RunLeads a b P → LeadsAnswering s reports a t b t P
  reports_still {a} {b} {t} p = record {
    leads = p;
    answering = λ _ h stands has. none_left s h a b p.choices t t refl;
    answered = λ _ h stands has. answered_now s h p.choices t.sent has.stream has.stream_is (record { rest = has.stream.now.pending; all_is = rw has.sent });
  }

  pub reports_map : {a b : Hub D g} {t u : Traffic} {P Q : Point → Point → Type 0} → LeadsAnswering s reports a t b u P
      → ((h k : Point) → StandsFor b k.hub → P h k → Q h k) → LeadsAnswering s reports a t b u Q
  reports_map {a} {b} {t} {u} {P} {Q} p f = record { leads = leads_map a b P Q p.leads f; answering = p.answering; answered = p.answered }

  -- one call of the stream, which moved no more than was pending
  pub reports_call : {a b : Hub D g} {t u : Traffic} {P : Point → Point → Type 0} → NoneRuns a → RunLeads a b P → (moment : ℕ) → moment ≡ g.moment (device a)
      → (reports → DepartAt moment t u)
      → (reports → (bytes : List ℕ) × IsBeginning bytes (pending_of a s) × (u.sent ≡ t.sent ++ bytes)) → LeadsAnswering s reports a t b u P
  reports_call {a} {b} {t} {u} none p moment now departs took = record {
    leads = p;
    answering = λ is h stands has.
        let d = departs is in
        let was_answered = λ (d : Departure) (left : (d.moment ≡ moment)
        × IsBeginning d.bytes u.sent). answered_now s h [] d.bytes has.stream has.stream_is
        (begins_through d.bytes u.sent _ left.1 (begins is h stands has)) in
        let each = all-each _ (WasAnsweredBefore s h a b p.choices) d.departures (λ d left.
        record {
          before = [];
          since = p.choices;
          events_are = refl;
          hub = a;
          came = none;
          goes_on = p.ran;
          moment_is = left.0
              ∙ now;
          was_answered = was_answered d left;
        })
        d.each in
        search (d.departed_are, each);
    answered = λ is h stands has. answered_now s h p.choices u.sent has.stream has.stream_is (begins is h stands has);
  }
    where
      begins : reports → (h : HubState) → StandsFor a h → (has : HasSent s h t) → IsBeginning u.sent (has.stream.sent ++ has.stream.now.pending)
      begins is h stands has =
          let w = took is in
          begins_all w.0 has.stream.now.pending has.stream.sent t.sent u.sent
          (subst (λ l. IsBeginning w.0 l) (pending_seen a h stands s ∙ ap pending_in has.stream_is) w.1) has.sent w.2

  -- with what the hub between stands for
  pub reports_two_at : Follow D g → {a b c : Hub D g} {t u v : Traffic} {P Q R : Point → Point → Type 0} → LeadsAnswering s reports a t b u P
      → LeadsAnswering s reports b u c v Q
      → ((h k : Point) → P h k → Carried s reports h t k u) → ((h k l : Point) → StandsFor b k.hub → StandsFor c l.hub → P h k → Q k l → R h l)
      → LeadsAnswering s reports a t c v R
  reports_two_at follow {a} {b} {c} {t} {u} {v} {P} {Q} {R} p q carried f = record {
    leads = leads_two_at follow a b c P Q R p.leads q.leads f;
    answering = λ is h stands has.
        let mid = between is h stands has in
        all_were_answered_then s h follow a b c p.leads.choices q.leads.choices p.leads.ran q.leads.ran t u v (p.answering is h stands has)
        (q.answering is (run h p.leads.choices) mid.0 mid.1);
    answered = λ is h stands has.
        let mid = between is h stands has in
        answered_then s h p.leads.choices q.leads.choices v.sent (q.answered is (run h p.leads.choices) mid.0 mid.1);
  }
    where
      between : reports → (h : HubState) → StandsFor a h → HasSent s h t → StandsFor b (run h p.leads.choices) × HasSent s (run h p.leads.choices) u
      between is h stands has =
          let to = p.leads.to (point_of a h) (at_point a h stands) in (
            subst (StandsFor b) to.2.0.run_is to.1.state,
            subst (λ v. HasSent s v u) to.2.0.run_is (sent_after s reports (point_of a h) t to.0 u (carried (point_of a h) to.0 to.2.1) is has),
          )

  pub reports_three : Follow D g → {a b c d : Hub D g} {t u v w : Traffic} {P Q R S : Point → Point → Type 0} → LeadsAnswering s reports a t b u P
      → LeadsAnswering s reports b u c v Q → LeadsAnswering s reports c v d w R
      → ((h k : Point) → P h k → Carried s reports h t k u) → ((k l : Point) → Q k l → Carried s reports k u l v)
      → ((h k l m : Point) → StandsFor c l.hub → P h k → Q k l → R l m → S h m) → LeadsAnswering s reports a t d w S
  reports_three follow {a} {b} {c} {d} {t} {u} {v} {w} {P} {Q} p q r one two f =
      reports_two_at follow (reports_two_at follow {R = λ h l. (k : Point) × StandsFor c l.hub × P h k
      × Q k l} p q one (λ h k l was stands x y. (k, stands, x, y)))
      r
      (λ h l x. and_then (one h x.0 x.2) (two x.0 l x.3))
      (λ h l m stands last x z. f h x.0 l m x.1 x.2 x.3 z)

  -- and then an event of the hub
  pub reports_step : Follow D g → {a b c : Hub D g} {t u : Traffic} {P R : Point → Point → Type 0} {e : HubEvent} {outcome : Outcome}
      → LeadsAnswering s reports a t b u P → HubLeads b c e outcome → RunsAlone b c e
      → failures b ≤ failures c → ((h k : Point) → P h k → Carried s reports h t k u)
      → ((h k : Point) (choice : Choice) → Happens k e choice (failures c) → outcome ≡ (hub_step k.hub e choice).1 → StandsFor c (hub_step k.hub e choice).0
      → P h k → R h (point_after k e choice (failures c)))
      → LeadsAnswering s reports a t c u R
  reports_step follow {a} {b} {c} {t} {u} {P} {R} {e} {outcome} p q alone counted carried f =
      reports_two_at follow p
      (reports_still (leads_event b c (λ k l. (h : Point) → P h k
      → R h l) e outcome q alone counted (λ k at happens is stands h x. f h k q.0 happens is stands x))) carried
      (λ h k l was stands x y. y h x)
