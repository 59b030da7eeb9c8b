-- The turns of a walk over the table, and what left over its streams, entry by entry.
use Rattle.std.proofs.Common.{◌≡◌, ◌≢◌, inl, inr, ℕ, suc, ◌+◌, ◌<◌, ◌≤◌, List, [], ◌∷◌, ◌++◌, length, set, take, drop}
use Rattle.std.proofs.Common.{get_or, refl, sym, ap, subst, ◌∙◌, arith, Option, Some, None, ◌⊎◌}
use Rattle.std.proofs.Math.ListN.{get_or-eq_default}
use Rattle.std.proofs.lemmas.Bool.{cases_eq, cases_lt}
use Rattle.std.proofs.lemmas.List.{take_all, take_more, take_more_set, get_or-drop, drop-drop, drop-set-lt}
use Rattle.std.proofs.lemmas.List.{get_or-set_other, get_or-set_same, length-append, length-set, set_comm, set_past}
use Rattle.std.proofs.lemmas.List.{set-set}
use Rattle.model.proofs.Lookups.{some_same}
use Rattle.sessions.specs.Laws.{NoneRuns}
use Rattle.sessions.specs.SessionStreams.{Choice, HubEvent, HubState, run}
use Rattle.sessions.specs.StandsFor.{status_in, StandsFor}
use Rattle.stream_driver.proofs.Carry.{run_then}
use Rattle.stream_driver.proofs.OneEntry.{below, entry_other, entry_present, get_set, ends_last}
use Rattle.stream_driver.proofs.Sends.{reports_still, all_were_answered_then, answered_on, more_since, none_left}
use Rattle.stream_driver.proofs.Sends.{sent_after}
use Rattle.stream_driver.proofs.States.{Follow, leads_none, present_after, at_point, leads_map, leads_two_at}
use Rattle.stream_driver.proofs.States.{point_of}
use Rattle.stream_driver.specs.Drives.{Drove}
use Rattle.stream_driver.specs.Entries.{HaveSessions, DrivenEntry, DrivenIn, DrivenSlot, DrivenAll, EntriesSoFar}
use Rattle.stream_driver.specs.Entries.{LeadsAll, LeadsThen, all_but, entry_state_after, with_last, KeepSessions}
use Rattle.stream_driver.specs.Sends.{DrivesAnswering, LeadsAnswering, WereAnsweredBefore, IsAnswered, HasSent}
use Rattle.stream_driver.specs.Sends.{HaveSent}
use Rattle.stream_driver.specs.Sessions.{Ghosts, Hub, Point, RunLeads, IsPresent, StandsAt}
use Rattle.stream_driver.specs.Traffic.{Traffic}
use Rattle.stream_driver.specs.Types.{Progress, Gone, EntryState, Ready, EntryGone, Idle, Entry}

module _ {T : Type 0} (reports : Type 0) (traffic : T → Traffic) where
  -- what was sent over the stream of an entry that isn't gone is what was reported as sent, after its drive too
  entry_sent : (state : EntryState) (k : Point) (old : Entry T) (l : Point) (entry : Entry T) → old.state ≡ state → DrivenIn reports traffic state k old l entry
      → entry.state ≢ EntryGone → reports
      → HasSent old.session k.hub (traffic old.stream) → HasSent entry.session l.hub (traffic entry.stream)
  entry_sent Ready k old l entry is d alive t has =
      let going : d.answer ≢ Gone = λ gone. alive (d.state ∙ ap entry_state_after gone) in
      let same : l ≡ d.drove.last = ends_last old.session d.drove.last l d.answer going d.drove.ends in
      subst (λ s. HasSent s l.hub (traffic entry.stream)) (sym d.session)
      (subst (λ (p : Point). HasSent old.session p.hub (traffic entry.stream)) (sym same)
      (sent_after old.session reports k (traffic old.stream) d.drove.last (traffic entry.stream) d.drove.carried t has))
  entry_sent Idle k old l entry is d alive t has =
      subst (λ (p : Point). HasSent entry.session p.hub (traffic entry.stream)) (sym d.1)
      (subst (λ (x : Entry T). HasSent x.session k.hub (traffic x.stream)) (sym d.0) has)
  entry_sent EntryGone k old l entry is d alive t has = absurd (alive (ap (λ (x : Entry T). x.state) d.0 ∙ is))

  -- nothing leaves over the stream of one that is gone
  gone_same : (old entry : Entry T) (k l : Point) (state : EntryState) → state ≡ EntryGone → DrivenIn reports traffic state k old l entry → entry ≡ old
  gone_same old entry k l Ready e d = absurd (cc)
  gone_same old entry k l _ e d = d.0

  module _ {D : Type 0} {g : Ghosts D} where
    pub drives_none : (hub : Hub D g) (slots : List (Option (Entry T))) → NoneRuns hub → (P : Point → Point → Type 0) → ((h : Point) → StandsAt hub h → P h h)
        → DrivesAnswering traffic reports hub slots hub slots P
    drives_none hub slots none P f = record {
      leads = leads_none hub none P f;
      answering = λ t h stands has key was entry e d. none_left was.session h hub hub [] (traffic was.stream) (traffic entry.stream)
          (ap (λ (x : Entry T). (traffic x.stream).departed) (some_same (sym d ∙ e)));
      answered = λ t h stands has key was entry e d. inl (ap (λ (x : Entry T). (traffic x.stream).sent) (some_same (sym d ∙ e)));
      keeps = λ t h stands has. has;
    }

    pub drives_map : {hub : Hub D g} {slots : List (Option (Entry T))} {later : Hub D g} {new : List (Option (Entry T))} {P Q : Point → Point → Type 0}
        → DrivesAnswering traffic reports hub slots later new P
        → ((h k : Point) → StandsFor later k.hub → P h k → Q h k) → DrivesAnswering traffic reports hub slots later new Q
    drives_map {hub} {slots} {later} {new} {P} {Q} p f =
        record { leads = leads_map hub later P Q p.leads f; answering = p.answering; answered = p.answered; keeps = p.keeps }

    -- what left over the stream of an entry was answered before, and if more was sent since, all that was answered
    abbrev EntryWasAnswered : ℕ → HubState → Hub D g → Hub D g → List (HubEvent × Choice) → Entry T → Entry T → Type 0
    EntryWasAnswered s h a b es was now =
        WereAnsweredBefore s h a b es (traffic was.stream) (traffic now.stream)
        × (((traffic now.stream).sent ≡ (traffic was.stream).sent) ⊎ IsAnswered s h es (traffic now.stream).sent)

    -- and then one entry more
    module _ (follow : Follow D g) (key : ℕ) {hub : Hub D g} {slots : List (Option (Entry T))} {mid : Hub D g} {new : List (Option (Entry T))} {old : Entry T}
        {later : Hub D g} (entry : Entry T)
        {P : Point → Point → Type 0} (R : Point → Point → Type 0) (p : DrivesAnswering traffic reports hub slots mid new P)
        (q : LeadsAnswering old.session reports mid (traffic old.stream) later (traffic entry.stream) (λ h k. DrivenEntry reports traffic h old k entry))
        (is : get_or new key None ≡ Some old) (lt : key < length new) (sessions : HaveSessions mid new) (numbers : KeepSessions slots new) where
      abbrev es : List (HubEvent × Choice)
      es = p.leads.choices

      abbrev fs : List (HubEvent × Choice)
      fs = q.leads.choices

      mid_stands : (h : HubState) → StandsFor hub h → StandsFor mid (run h es)
      mid_stands h stands = let to = p.leads.to (point_of hub h) (at_point hub h stands) in subst (StandsFor mid) to.2.0.run_is to.1.state

      entry_was_answered : reports → (h : HubState) → StandsFor mid h → HaveSent traffic h new → EntryWasAnswered old.session h mid later fs old entry
      entry_was_answered t h stands has =
          let to = q.leads.to (point_of mid h) (at_point mid h stands) in
          by old.state refl (λ gone. gone_same old entry (point_of mid h) to.0 old.state gone to.2.1)
        where
          by : (state : EntryState) → old.state ≡ state → (old.state ≡ EntryGone → entry ≡ old) → EntryWasAnswered old.session h mid later fs old entry
          by EntryGone e same = (
            none_left old.session h mid later fs (traffic old.stream) (traffic entry.stream) (ap (λ (x : Entry T). (traffic x.stream).departed) (same e)),
            inl (ap (λ (x : Entry T). (traffic x.stream).sent) (same e)),
          )
          by _ e same = let sent = has key old is (λ gone. cc) in (q.answering t h stands sent, inr (q.answered t h stands sent))

      all_were_answered : reports → (h : HubState) → StandsFor hub h → HaveSent traffic h slots → (other : ℕ) (was now : Entry T)
          → get_or slots other None ≡ Some was
          → get_or (set new key (Some entry)) other None ≡ Some now
          → EntryWasAnswered was.session h hub later (es ++ fs) was now
      all_were_answered t h stands has other was now e d = elim (get_set new key other entry now lt d) [
        | inl (same, which) ↦
            let there : get_or new other None ≡ Some old = ap (λ k. get_or new k None) same ∙ is in
            let before = numbers other old there in
            let session : old.session ≡ was.session = before.2 ∙ ap (λ (x : Entry T). x.session) (some_same (sym before.1 ∙ e)) in
            let this = subst (λ s. EntryWasAnswered s (run h es) mid later fs old entry) session (entry_was_answered t (run h es) (mid_stands h stands)
            (p.keeps t h stands has))
            in
            let was_answered = all_were_answered_then was.session h follow hub mid later es fs p.leads.ran q.leads.ran (traffic was.stream) (traffic old.stream)
            (traffic entry.stream) (p.answering t h stands has other was old e there) this.0 in
            subst (λ (x : Entry T). EntryWasAnswered was.session h hub later (es ++ fs) was x) (sym which) (
              was_answered,
              answered_on (p.answered t h stands has other was old e there) this.1,
            )
        | inr (differs, there) ↦ (
          more_since was.session h follow hub mid later es fs q.leads.ran (traffic was.stream) (traffic now.stream)
              (p.answering t h stands has other was now e there),
          answered_on (p.answered t h stands has other was now e there) (inl refl),
        )
      ]

      all_kept : reports → (h : HubState) → StandsFor mid h → HaveSent traffic h new → HaveSent traffic (run h fs) (set new key (Some entry))
      all_kept t h stands has other now e alive =
          let to = q.leads.to (point_of mid h) (at_point mid h stands) in
          let at : Point = point_of mid h in
          let alive_before : entry.state ≢ EntryGone → old.state ≢ EntryGone =
          λ going gone. going (ap (λ (x : Entry T). x.state) (gone_same old entry at to.0 old.state gone to.2.1) ∙ gone) in
          subst (λ v. HasSent now.session v (traffic now.stream)) to.2.0.run_is
          (elim (get_set new key other entry now lt e) [
            | inl (same, which) ↦
                let going : entry.state ≢ EntryGone = λ gone. alive (ap (λ (x : Entry T). x.state) which ∙ gone) in
                subst (λ (x : Entry T). HasSent x.session to.0.hub (traffic x.stream)) (sym which)
                (entry_sent old.state at old to.0 entry refl to.2.1 going t (has key old is (alive_before going)))
            | inr (differs, there) ↦
                let was = has other now there alive in
                let apart : old.state ≢ EntryGone → now.session ≢ old.session =
                λ going one. differs (sessions.own other key now old there is alive going one) in
                record {
                  stream = was.stream;
                  stream_is = entry_other reports traffic old.state at old to.0 entry refl to.2.1 now.session apart ∙ was.stream_is;
                  sent = was.sent;
                }
          ])

      pub drives_then : ((h k l : Point) → StandsFor later l.hub → P h k → DrivenEntry reports traffic k old l entry → R h l)
          → DrivesAnswering traffic reports hub slots later (set new key (Some entry)) R
      drives_then f = record {
        leads = leads_two_at follow hub mid later P (λ h k. DrivenEntry reports traffic h old k entry) R p.leads q.leads
            (λ h k l was stands x y. f h k l stands x y);
        answering = λ t h stands has other was now e d. (all_were_answered t h stands has other was now e d).0;
        answered = λ t h stands has other was now e d. (all_were_answered t h stands has other was now e d).1;
        keeps = λ t h stands has other now e alive.
            subst (λ v. HasSent now.session v (traffic now.stream)) (sym (run_then h es fs))
            (all_kept t (run h es) (mid_stands h stands) (p.keeps t h stands has) other now e alive);
      }

-- ---- the walk

-- an entry after one was driven, and what it was before
entry_was : {T : Type 0} (slots : List (Option (Entry T))) (key : ℕ) (old new : Entry T) → get_or slots key None ≡ Some old → new.session ≡ old.session
    → (old.state ≡ EntryGone → new.state ≡ EntryGone)
    → (other : ℕ) (now : Entry T) → get_or (set slots key (Some new)) other None ≡ Some now
    → (was : Entry T) × (get_or slots other None ≡ Some was) × (now.session ≡ was.session) × (now.state ≢ EntryGone → was.state ≢ EntryGone)
entry_was {T} slots key old new is same stays other now e = elim (get_set slots key other new now (below slots key old is) e) [
  | inl (at, which) ↦ (
    old,
    ap (λ k. get_or slots k None) at ∙ is,
    ap (λ (x : Entry T). x.session) which ∙ same,
    λ alive gone. alive (ap (λ (x : Entry T). x.state) which ∙ stays gone),
  )
  | inr (differs, there) ↦ (now, there, refl, λ alive. alive)
]

module _ {T : Type 0} (reports : Type 0) (traffic : T → Traffic) where
  -- an entry that was ready was driven
  pub driven_once : {earlier later : Point} {old : Entry T} {answer : Progress} {stream : T} {state : EntryState} → old.state ≡ Ready
      → state ≡ entry_state_after answer
      → Drove old.session reports earlier (traffic old.stream) answer later (traffic stream)
      → DrivenEntry reports traffic earlier old later (record { session = old.session; stream = stream; state = state })
  driven_once {earlier} {later} {old} {answer} {stream} {state} ready is drove =
      let new : Entry T = record { session = old.session; stream = stream; state = state } in
      subst (λ (s : EntryState). DrivenIn reports traffic s earlier old later new) (sym ready)
      (record { answer = answer; drove = drove; session = refl; state = is })

  -- one that isn't ready is left alone
  pub left_alone : {D : Type 0} {g : Ghosts D} (hub : Hub D g) (old : Entry T) → NoneRuns hub → old.state ≢ Ready
      → LeadsAnswering old.session reports hub (traffic old.stream) hub (traffic old.stream) (λ h k. DrivenEntry reports traffic h old k old)
  left_alone hub old none differs = reports_still (leads_none hub none _ (λ h at. by old.state differs h))
    where
      by : (state : EntryState) → state ≢ Ready → (h : Point) → DrivenIn reports traffic state h old h old
      by state d h = grind arith

  driven_more : (earlier : Point) (xs : List (Option (Entry T))) (mid : Point) (ys : List (Option (Entry T))) (x : Option (Entry T)) (later : Point)
      (y : Option (Entry T))
      → DrivenAll reports traffic earlier xs mid ys → DrivenSlot reports traffic mid x later y
      → DrivenAll reports traffic earlier (xs ++ x ∷ []) later (ys ++ y ∷ [])
  driven_more earlier [] mid ys x later y (e, same) d =
      (y, later, [], ap (λ (l : List (Option (Entry T))). l ++ y ∷ []) e, subst (λ (v : Point). DrivenSlot reports traffic v x later y) same d, (refl, refl))
  driven_more earlier (z ∷ zs) mid ys x later y (first, m, others, e, dz, rest) d =
      (first, m, others ++ y ∷ [], ap (λ (l : List (Option (Entry T))). l ++ y ∷ []) e, dz, driven_more m zs mid others x later y rest d)

  module _ {D : Type 0} {g : Ghosts D} {hub later : Hub D g} (slots : List (Option (Entry T))) (key : ℕ) {old : Entry T} (new : Entry T)
      (is : get_or slots key None ≡ Some old) (same : new.session ≡ old.session)
      (stays : old.state ≡ EntryGone → new.state ≡ EntryGone) (leads : RunLeads hub later (λ h k. DrivenEntry reports traffic h old k new)) where
    still_present : new.state ≢ EntryGone → IsPresent hub old.session → IsPresent later new.session
    still_present alive has = present_after old.session new.session has leads (λ h k p d. entry_present reports traffic old.state h old k new refl d alive p)

    other_present : (s : ℕ) → (old.state ≢ EntryGone → s ≢ old.session) → IsPresent hub s → IsPresent later s
    other_present s apart has =
        present_after s s has leads (λ h k p d gone. p (sym (ap status_in (entry_other reports traffic old.state h old k new refl d s apart)) ∙ gone))

    pub sessions_kept : HaveSessions hub slots → HaveSessions later (set slots key (Some new))
    sessions_kept has =
        let lt : key < length slots = below slots key old is in
        record {
          present = λ other another e alive. elim (get_set slots key other new another lt e) [
            | inl (at, which) ↦
                let before : old.state ≢ EntryGone = λ gone. alive (ap (λ (x : Entry T). x.state) which ∙ stays gone) in
                subst (λ (x : Entry T). IsPresent later x.session) (sym which)
                (still_present (λ gone. alive (ap (λ (x : Entry T). x.state) which ∙ gone)) (has.present key old is before))
            | inr (differs, at) ↦ other_present another.session (λ old_alive one. differs (has.own other key another old at is alive old_alive one))
                (has.present other another at alive)
          ];
          own = λ one two first second e f alive alive_too shared.
              let a = entry_was slots key old new is same stays one first e in
              let b = entry_was slots key old new is same stays two second f in
              has.own one two a.0 b.0 a.1 b.1 (a.3 alive) (b.3 alive_too) (sym a.2 ∙ shared ∙ b.2);
        }

  pub same_slot : (key : ℕ) (slots new : List (Option (Entry T))) → drop key new ≡ drop key slots → get_or slots key None ≡ get_or new key None
  same_slot key slots new e = grind (arith, get_or-drop key slots 0 None, get_or-drop key new 0 None)

  drop_next : (key : ℕ) (slots new : List (Option (Entry T))) → drop key new ≡ drop key slots → drop (key + 1) new ≡ drop (key + 1) slots
  drop_next key slots new e = sym (drop-drop 1 key new) ∙ ap (λ (l : List (Option (Entry T))). drop 1 l) e ∙ drop-drop 1 key slots

  pub entries_none : {D : Type 0} {g : Ghosts D} {hub : Hub D g} {slots : List (Option (Entry T))} (last : ℕ) → NoneRuns hub → HaveSessions hub slots
      → EntriesSoFar reports traffic last 0 hub slots hub slots
  entries_none {D} {g} {hub} {slots} last none has =
      record {
        driven = drives_none reports traffic hub slots none _ (λ h stands. (refl, refl));
        rest = refl;
        waits = refl;
        len = refl;
        sessions = has;
        numbers = λ key entry e. (entry, e, refl);
      }

  -- a slot without an entry
  one_vacant : (key : ℕ) (slots new : List (Option (Entry T))) → length new ≡ length slots → get_or slots key None ≡ None → get_or new key None ≡ None
      → (h k : Point) → DrivenAll reports traffic h (take key slots) k (take key new)
      → DrivenAll reports traffic h (take (key + 1) slots) k (take (key + 1) new)
  one_vacant key slots new len was none h k now = elim (cases_lt key (length slots)) [
    | inl lt ↦
        let lt_new : key < length new = rw len lt in
        rw (
          take_more slots key None lt,
          take_more new key None lt_new,
          was,
          none,
        ) (driven_more h (take key slots) k (take key new) None k None now (refl, refl))
    | inr ge ↦ rw (
      take_all (key + 1) slots (omega arith),
      take_all (key + 1) new (rw len (omega arith)),
    ) (rw (take_all key slots ge, take_all key new (rw len ge)) at now)
  ]

  one_driven : (key : ℕ) (slots new : List (Option (Entry T))) (old entry : Entry T) → get_or slots key None ≡ Some old → get_or new key None ≡ Some old
      → (h k l : Point) → DrivenAll reports traffic h (take key slots) k (take key new) → DrivenEntry reports traffic k old l entry
      → DrivenAll reports traffic h (take (key + 1) slots) l (take (key + 1) (set new key (Some entry)))
  one_driven key slots new old entry was is h k l now d =
      rw (take_more slots key None (below slots key old was), take_more_set new key (Some entry) (below new key old is), was)
      (driven_more h (take key slots) k (take key new) (Some old) l (Some entry) now (entry, refl, d))

  -- without the last
  pub but_last : (last key : ℕ) (slots : List (Option (Entry T))) → key ≡ last → get_or (all_but last slots) key None ≡ None
  but_last last key slots same = elim (cases_lt last (length slots)) [
    | inl lt ↦ ap (λ k. get_or (all_but last slots) k None) same ∙ get_or-set_same slots last None None lt
    | inr ge ↦ get_or-eq_default (all_but last slots) None (rw (length-set slots last None, same) ge)
  ]

  pub but_none : (last key : ℕ) (slots : List (Option (Entry T))) → get_or slots key None ≡ None → get_or (all_but last slots) key None ≡ None
  but_none last key slots none = elim (cases_eq key last) [
    | inl same ↦ but_last last key slots same
    | inr differs ↦ get_or-set_other slots last key None None differs ∙ none
  ]

  module _ {D : Type 0} {g : Ghosts D} {last key : ℕ} {hub : Hub D g} {slots : List (Option (Entry T))} {mid : Hub D g} {new : List (Option (Entry T))}
      (p : EntriesSoFar reports traffic last key hub slots mid new) where
    len_but : length (all_but last new) ≡ length (all_but last slots)
    len_but = length-set new last None ∙ p.len ∙ sym (length-set slots last None)

    -- nothing is done at a key at which there is no entry, or where it is the last
    entries_passed : get_or (all_but last slots) key None ≡ None → get_or (all_but last new) key None ≡ None
        → EntriesSoFar reports traffic last (key + 1) hub slots mid new
    entries_passed was none = record {
      driven = drives_map reports traffic p.driven
          (λ (h k : Point) (stands : StandsFor mid k.hub). one_vacant key (all_but last slots) (all_but last new) len_but was none h k);
      rest = drop_next key slots new p.rest;
      waits = p.waits;
      len = p.len;
      sessions = p.sessions;
      numbers = p.numbers;
    }

    pub entries_vacant : get_or new key None ≡ None → EntriesSoFar reports traffic last (key + 1) hub slots mid new
    entries_vacant none = entries_passed (but_none last key slots (same_slot key slots new p.rest ∙ none)) (but_none last key new none)

    pub entries_wait : key ≡ last → EntriesSoFar reports traffic last (key + 1) hub slots mid new
    entries_wait same = entries_passed (but_last last key slots same) (but_last last key new same)

    -- the entry at a key is driven
    module _ (at : ℕ) (old : Entry T) {later : Hub D g} {entry : Entry T} (is : get_or new at None ≡ Some old) (same : entry.session ≡ old.session)
        (stays : old.state ≡ EntryGone → entry.state ≡ EntryGone)
        (leads : LeadsAnswering old.session reports mid (traffic old.stream) later (traffic entry.stream) (λ h k. DrivenEntry reports traffic h old k entry))
      where
        pub driven_numbers : KeepSessions slots (set new at (Some entry))
        driven_numbers other another e =
            let was = entry_was new at old entry is same stays other another e in
            let before = p.numbers other was.0 was.1 in
            (before.0, before.1, was.2 ∙ before.2)

        pub driven_sessions : HaveSessions later (set new at (Some entry))
        driven_sessions = sessions_kept new at entry is same stays leads.leads p.sessions

    pub entries_driven : Follow D g → (old : Entry T) {later : Hub D g} {entry : Entry T} → key ≢ last → get_or new key None ≡ Some old
        → entry.session ≡ old.session → (old.state ≡ EntryGone → entry.state ≡ EntryGone)
        → LeadsAnswering old.session reports mid (traffic old.stream) later (traffic entry.stream) (λ h k. DrivenEntry reports traffic h old k entry)
        → EntriesSoFar reports traffic last (key + 1) hub slots later (set new key (Some entry))
    entries_driven follow old {later} {entry} differs is same stays leads = record {
      driven = drives_then reports traffic follow key entry _ p.driven leads is (below new key old is) p.sessions p.numbers
          (λ h k l stands now d.
          subst (λ (ys : List (Option (Entry T))). DrivenAll reports traffic h (take (key + 1) (all_but last slots)) l (take (key + 1) ys))
          (set_comm new last key None (Some entry) (λ e. differs (sym e)))
          (one_driven key (all_but last slots) (all_but last new) old entry
          (get_or-set_other slots last key None None differs ∙ same_slot key slots new p.rest ∙ is)
          (get_or-set_other new last key None None differs ∙ is) h k l now d));
      rest = rw (drop-set-lt (key + 1) new key (Some entry) (omega arith)) (drop_next key slots new p.rest);
      waits = get_or-set_other new key last (Some entry) None (λ e. differs (sym e)) ∙ p.waits;
      len = length-set new key (Some entry) ∙ p.len;
      sessions = driven_sessions key old is same stays leads;
      numbers = driven_numbers key old is same stays leads;
    }

    -- ---- the last

    module _ (all : length slots ≤ key) where
      all_others : (h k : Point) → DrivenAll reports traffic h (take key (all_but last slots)) k (take key (all_but last new))
          → DrivenAll reports traffic h (all_but last slots) k (all_but last new)
      all_others h k d =
          rw (
            take_all key (all_but last slots) (rw (length-set slots last None) all),
            take_all key (all_but last new) (rw (length-set new last None, p.len) all),
          ) at d

      pub none_last : get_or new last None ≡ None → LeadsThen reports traffic last hub slots mid new
      none_last none = drives_map reports traffic p.driven (λ (h k : Point) (stands : StandsFor mid k.hub) d.
          driven_more h (all_but last slots) k (all_but last new) (get_or slots last None) k (get_or new last None) (all_others h k d)
          (rw (sym p.waits ∙ none, none) (refl, refl)))

      pub then_last : Follow D g → (old : Entry T) {later : Hub D g} (entry : Entry T) → get_or new last None ≡ Some old
          → LeadsAnswering old.session reports mid (traffic old.stream) later (traffic entry.stream) (λ h k. DrivenEntry reports traffic h old k entry)
          → LeadsThen reports traffic last hub slots later (set new last (Some entry))
      then_last follow old {later} entry is leads =
          drives_then reports traffic follow last entry _ p.driven leads is (below new last old is) p.sessions p.numbers
          (λ h k l stands now d. rw (
            set-set new last (Some entry) None,
            get_or-set_same new last (Some entry) None (below new last old is),
            sym p.waits ∙ is,
          ) (driven_more h (all_but last slots) k (all_but last new) (Some old) l (Some entry) (all_others h k now) (entry, refl, d)))

  -- ---- where none is last

  pub driven_length : (earlier : Point) (xs : List (Option (Entry T))) (later : Point) (ys : List (Option (Entry T)))
      → DrivenAll reports traffic earlier xs later ys → length ys ≡ length xs
  driven_length earlier [] later ys d = ap length d.0
  driven_length earlier (x ∷ xs) later ys (first, mid, others, is, dx, rest) = ap length is ∙ ap suc (driven_length mid xs later others rest)

  driven_front : (earlier : Point) (xs : List (Option (Entry T))) (later : Point) (ys : List (Option (Entry T))) → length ys ≡ length xs
      → DrivenAll reports traffic earlier (xs ++ None ∷ []) later (ys ++ None ∷ []) → DrivenAll reports traffic earlier xs later ys
  driven_front earlier [] later [] len (first, mid, others, is, dx, rest) = (refl, rest.1 ∙ dx.1)
  driven_front earlier [] later (y ∷ ys) len d = absurd (cc)
  driven_front earlier (x ∷ xs) later [] len d = absurd (cc)
  driven_front earlier (x ∷ xs) later (y ∷ ys) len (first, mid, others, is, dx, rest) = (
    y,
    mid,
    ys,
    refl,
    subst (λ (s : Option (Entry T)). DrivenSlot reports traffic earlier x mid s) (cc) dx,
    driven_front mid xs later ys (cc)
        (subst (λ (l : List (Option (Entry T))). DrivenAll reports traffic mid (xs ++ None ∷ []) later l) (cc) rest),
  )

  pub none_is_last : {D : Type 0} {g : Ghosts D} {hub later : Hub D g} {slots new : List (Option (Entry T))} (last : ℕ) → length slots ≤ last
      → LeadsThen reports traffic last hub slots later new → LeadsAll reports traffic hub slots later new
  none_is_last {D} {g} {hub} {later} {slots} {new} last le leads = drives_map reports traffic leads (λ (h k : Point) (stands : StandsFor later k.hub) d.
      let with = driven_length h (with_last last slots) k (with_last last new) d in
      let len : length new ≡ length slots = omega (
        arith,
        with,
        length-append (all_but last slots) (get_or slots last None ∷ []),
        length-append (all_but last new) (get_or new last None ∷ []),
        length-set slots last None,
        length-set new last None,
      ) in
      driven_front h slots k new len (rw (
        set_past slots last None le,
        set_past new last None (rw len le),
        get_or-eq_default slots None {n = last} le,
        get_or-eq_default new None {n = last} (rw len le),
      ) at d))
