-- The table keeps a session of its own for each entry, under a number that is below the next, as a connection comes too; and what leads a hub on as they come.
use Rattle.std.proofs.Common.{◌≡◌, ◌≢◌, ◌⊎◌, inl, inr, ℕ, ◌+◌, ◌<◌, get_or, sym, ap, subst, ◌∙◌, arith, Some, None}
use Rattle.std.proofs.Common.{◌≤◌, ◌-◌, ◌^◌, min, max, List, [], ◌∷◌, ◌++◌, refl, Result, Ok, Err, IfOk}
use Rattle.std.proofs.Math.Logic.{∥∥₁_elim}
use Rattle.std.proofs.lemmas.Bool.{cases_eq}
use Rattle.std.specs.declared.io.Error.{Error}
use Rattle.std.specs.declared.net.SocketAddr.{SocketAddr}
use Rattle.slab.specs.Slab.{Slab, Updates}
use denote.Struct.Props.{props}
use Rattle.model.proofs.Lookups.{some_same}
use Rattle.sector.specs.declared.device.Sectors.{Ghosts}
use Rattle.sessions.proofs.EventSteps.{status_seen}
use Rattle.sessions.proofs.Reached.{Reached, reached}
use Rattle.sessions.specs.Laws.{NoneRuns, RunsAlone}
use Rattle.sessions.specs.SessionStreams.{HubState, Joins, hub_step, HubEvent}
use Rattle.sessions.specs.StandsFor.{HubLeads, StandsFor, status_in, status_of, failures}
use Rattle.sessions.specs.declared.events.Outcome.{Outcome}
use Rattle.sessions.specs.declared.events.Outcome.TheVariants.{Done}
use Rattle.sessions.specs.declared.events.Status.TheVariants.{Absent, Open}
use Rattle.sessions.specs.declared.hub.Hub.{Hub}
use Rattle.socket_calls.specs.HappenedCalls.{WasAccepted}
use Rattle.socket_calls.specs.declared.counted.AcceptedSocket.{AcceptedSocket}
use Rattle.socket_calls.specs.declared.listening.ListeningSocket.{ListeningSocket}
use Rattle.stream_driver.proofs.Carry.{adds_then}
use Rattle.stream_driver.proofs.Events.{adds_none}
use Rattle.stream_driver.proofs.States.{Follow, leads_event, leads_none, leads_then}
use Rattle.stream_driver.specs.Entries.{HaveSessions, KeepSessions}
use Rattle.stream_driver.specs.Sessions.{Stands, IsPresent, RunLeads, status_at, Adds}
use Rattle.stream_driver.specs.Traffic.{one_more}
use Rattle.stream_driver.specs.declared.entries.Entry.{Entry}
use Rattle.stream_driver.specs.declared.entries.EntryState.TheVariants.{Ready, Gone}
use Rattle.event_loop.proofs.Present.{joins_other, joins_same, joins_not}
use Rattle.event_loop.proofs.Slots.{Slots}
use Rattle.event_loop.specs.Accepts.{Accepts, IsGiven, after_accept, after_accepted, more}
use Rattle.event_loop.specs.Numbers.{SessionsAreBelow}
use Rattle.event_loop.specs.Outcomes.{AcceptsAs}
use Rattle.event_loop.specs.Tables.{Admits, LetsIn, IsCause, IsOutsideCause, JoinIsRefused, IsWithoutEntry, slot_at}
use Rattle.event_loop.specs.Tables.{ComeEach, Comes, ComesAs, TableStands}
use Rattle.event_loop.specs.Tables.{join_of, joins_of, refusals_as, refusals_in, refusals_of}
use Rattle.event_loop.specs.Tables.AdmitsEach.{Nobody, OneMore}
use Rattle.event_loop.specs.declared.connections.Refusal.{Refusal}
use Rattle.event_loop.specs.declared.connections.Refusal.TheVariants.{Full, Numbers, Room, Session, System}
use Rattle.event_loop.specs.declared.listener.AcceptAnswer.{AcceptAnswer}
use Rattle.event_loop.specs.declared.listener.AcceptAnswer.TheVariants.{Accepted, Blocked, Failed}

-- a session was to join
module _ {D : Type 0} {g : Ghosts D} (hub later : Hub D g) (s : ℕ) (outcome : Outcome) (leads : HubLeads hub later (Joins s) outcome) (some : Stands hub) where
  seen_joined : {X : Type 0} → IsProp X → ((h : HubState) → StandsFor hub h → Reached later h (Joins s) leads.0 outcome → X) → X
  seen_joined prop f = ∥∥₁_elim some prop (λ w. f w.0 w.1 (reached hub later (Joins s) outcome leads w.0 w.1))

  pub joined_stands : Stands later
  joined_stands = seen_joined (hlevel) (λ h stands there. ∣ ((hub_step h (Joins s) leads.0).0, there.stands) ∣₁)

  -- each other session stands as it stood, and where this one was refused, each does
  same_status : (t : ℕ) → (t ≢ s) ⊎ (outcome ≢ Done) → status_of later t ≡ status_of hub t
  same_status t how = seen_joined (hlevel props) (λ h stands there. status_seen later _ there.stands t ∙ by h there how ∙ sym (status_seen hub h stands t))
    where
      by : (h : HubState) → Reached later h (Joins s) leads.0 outcome → (t ≢ s) ⊎ (outcome ≢ Done)
          → status_at (hub_step h (Joins s) leads.0).0 t ≡ status_at h t
      by h there (inl apart) = ap status_in (joins_other h s leads.0 t apart)
      by h there (inr refused) = ap (λ x. status_at x t) (joins_not h s leads.0 (λ done. refused (there.outcome_is ∙ done)))

  still : (t : ℕ) → (t ≢ s) ⊎ (outcome ≢ Done) → IsPresent hub t → IsPresent later t
  still t how has = (joined_stands, subst (λ v. v ≢ Absent) (sym (same_status t how)) has.1)

module _ {T : Type 0} where
  pub below_after : (next : ℕ) (old new : Slots T) → SessionsAreBelow next old → KeepSessions old new → SessionsAreBelow next new
  below_after next old new numbers kept = λ key entry e. let was = kept key entry e in subst (λ s. s < next) (sym was.2) (numbers key was.0 was.1)

  -- a new entry, whose session has just joined
  module _ {D : Type 0} {g : Ghosts D} (hub later : Hub D g) (old new : Slab (Entry T)) (key : ℕ) (entry : Entry T) (up : Updates old new key (Some entry))
      (leads : HubLeads hub later (Joins entry.session) Done) where
    there_now : Stands hub → IsPresent later entry.session
    there_now some = (
      joined_stands hub later entry.session Done leads some,
      seen_joined hub later entry.session Done leads some (hlevel) (λ h stands there gone.
          let bad : Open ≡ Absent =
          sym (status_seen later _ there.stands entry.session ∙ ap status_in (joins_same h entry.session leads.0 there.outcome_is)) ∙ gone in cc),
    )

    back : (other : ℕ) (another : Entry T) → get_or new.slots other None ≡ Some another
        → ((other ≡ key) × (another ≡ entry)) ⊎ ((other ≢ key) × (get_or old.slots other None ≡ Some another))
    back other another e = elim (cases_eq other key) [
      | inl at ↦ inl (at, some_same (sym e ∙ ap (λ (k : ℕ). get_or new.slots k None) at ∙ up.changed))
      | inr differs ↦ inr (differs, sym (up.others other differs) ∙ e)
    ]

    pub joined_sessions : Stands hub → SessionsAreBelow entry.session old.slots → HaveSessions hub old.slots → HaveSessions later new.slots
    joined_sessions some numbers has =
        let apart : (other : ℕ) (another : Entry T) → get_or old.slots other None ≡ Some another → another.session ≢ entry.session =
        λ other another e same. (let lt : another.session < entry.session = numbers other another e in omega arith) in
        record {
          present = λ other another e alive. elim (back other another e) [
            | inl (at, which) ↦ subst (λ (x : Entry T). IsPresent later x.session) (sym which) (there_now some)
            | inr (differs, was) ↦ still hub later entry.session Done leads some another.session (inl (apart other another was))
                (has.present other another was alive)
          ];
          own = λ one two first second e f alive too same. elim (back one first e) [
            | inl (at, which) ↦ elim (back two second f) [
              | inl (too_at, _) ↦ at
                  ∙ sym too_at
              | inr (_, was) ↦ absurd (apart two second was (sym same ∙ ap (λ (x : Entry T). x.session) which))
            ]
            | inr (_, was) ↦ elim (back two second f) [
              | inl (_, which) ↦ absurd (apart one first was (same ∙ ap (λ (x : Entry T). x.session) which))
              | inr (
                _,
                then,
              ) ↦ has.own one two first second was then alive too same
            ]
          ];
        }

    pub joined_numbers : SessionsAreBelow entry.session old.slots → SessionsAreBelow (entry.session + 1) new.slots
    joined_numbers numbers = λ other another e. elim (back other another e) [
      | inl (at, which) ↦ subst (λ (x : Entry T). x.session < entry.session + 1) (sym which) (omega arith)
      | inr (differs, was) ↦ (let lt : another.session < entry.session = numbers other another was in omega arith)
    ]

-- ---- a connection that comes

module _ {T D : Type 0} {g : Ghosts D} where
  module _ (hub later : Hub D g) (next then : ℕ) (slots new : Slots T) where
    -- a session was to join, or nothing was to happen
    tried_table : (later ≡ hub) ⊎ JoinIsRefused hub later next → TableStands hub next slots → TableStands later next slots
    tried_table how h = elim how [
      | inl same ↦ subst (λ (x : Hub D g). TableStands x next slots) (sym same) h
      | inr j ↦ record {
        stands = joined_stands hub later next j.0 j.2 h.stands;
        sessions = record {
          present = λ key entry e alive. still hub later next j.0 j.2 h.stands entry.session (inr j.1) (h.sessions.present key entry e alive);
          own = h.sessions.own;
        };
        numbers = h.numbers;
        entries = λ s without. same_status hub later next j.0 j.2 h.stands s (inr j.1) ∙ h.entries s without;
      }
    ]

    module _ (IsNew : ℕ → ℕ → T → Type 0) where
      -- a connection was let in
      in_table : LetsIn IsNew hub next slots later then new → TableStands hub next slots → TableStands later then new
      in_table l h =
          let slab : Slots T → Slab (Entry T) = λ slots. record { slots = slots; vacant_key = 0; capacity = 0 } in
          let up : Updates (slab slots) (slab new) l.key (Some l.entry) = record { changed = l.changed; others = l.others } in
          let leads : HubLeads hub later (Joins l.entry.session) Done = subst (λ s. HubLeads hub later (Joins s) Done) (sym l.session) l.joined in
          let numbers : SessionsAreBelow l.entry.session slots = subst (λ s. SessionsAreBelow s slots) (sym l.session) h.numbers in
          record {
            stands = joined_stands hub later next Done l.joined h.stands;
            sessions = joined_sessions hub later (slab slots) (slab new) l.key l.entry up leads h.stands numbers h.sessions;
            numbers = subst (λ s. SessionsAreBelow s new) (ap (λ s. s + 1) l.session
                ∙ sym l.next_is) (joined_numbers hub later (slab slots) (slab new) l.key l.entry up leads numbers);
            entries = λ s without.
                let apart : s ≢ next = λ same. (let bad : Ready ≡ Gone = sym l.state ∙ without l.key l.entry l.changed (l.session ∙ sym same) in cc) in
                let before : IsWithoutEntry s slots =
                λ key entry e same. without key entry
                (l.others key (λ at. (let bad : None ≡ Some entry = sym l.vacant ∙ ap (slot_at slots) (sym at) ∙ e in cc)) ∙ e) same in
                same_status hub later next Done l.joined h.stands s (inl apart) ∙ h.entries s before;
          }

      pub admits_table : Admits IsNew hub next slots later then new → TableStands hub next slots → TableStands later then new
      admits_table admits h = elim admits [
        | inl away ↦ subst (λ l. TableStands later then l) (sym away.slots_are)
            (subst (λ n. TableStands later n slots) (sym away.next_is) (tried_table away.hub_is h))
        | inr within ↦ in_table within h
      ]

-- ---- counts that stay at their highest

with_top : (M c m n : ℕ) → max (max c (min (c + m) M)) (min (max c (min (c + m) M) + n) M) ≡ max c (min (c + (m + n)) M)
with_top M c m n = omega arith

none_yet : (M c : ℕ) → c ≡ max c (min (c + 0) M)
none_yet M c = omega arith

pub more_none : (c : ℕ) → c ≡ more 0 c
more_none c = none_yet (2 ^ 64 - 1) c

more_more : (m n c : ℕ) → more n (more m c) ≡ more (m + n) c
more_more m n c = with_top (2 ^ 64 - 1) c m n

pub accepted_none : (a : Accepts) → a ≡ after_accepted 0 a
accepted_none a =
    ap (λ n. record a { asked = n }) (more_none a.asked) ∙ ap (λ t. record a { asked = more 0 a.asked; accepted = t }) (more_none a.accepted)

pub accepted_one : (n : ℕ) (a b c : Accepts) → b ≡ after_accepted n a → c ≡ record b { asked = one_more b.asked; accepted = one_more b.accepted }
    → c ≡ after_accepted (n + 1) a
accepted_one n a b c is step =
    step ∙ ap (λ (b : Accepts). record b { asked = one_more b.asked; accepted = one_more b.accepted }) is
    ∙ ap (λ m. record a { asked = m; accepted = one_more (more n a.accepted) }) (more_more n 1 a.asked)
    ∙ ap (λ t. record a { asked = more (n + 1) a.asked; accepted = t }) (more_more n 1 a.accepted)

-- an accept was asked and answered so
module _ (answer : AcceptAnswer) (a : Accepts) (asked counted : ℕ) where
  pub accepted_counted : (stream : AcceptedSocket) → answer ≡ Accepted stream → asked ≡ one_more a.asked → counted ≡ one_more a.accepted
      → record a { asked = asked; accepted = counted } ≡ after_accept answer a
  accepted_counted stream is once more = rw (is, once, more) refl

  pub blocked_counted : answer ≡ Blocked → asked ≡ one_more a.asked → counted ≡ one_more a.blocked
      → record a { asked = asked; blocked = counted } ≡ after_accept answer a
  blocked_counted is once more = rw (is, once, more) refl

  pub failed_counted : answer ≡ Failed → asked ≡ one_more a.asked → counted ≡ one_more a.failed
      → record a { asked = asked; failed = counted } ≡ after_accept answer a
  failed_counted is once more = rw (is, once, more) refl

-- ---- connections that come

-- one event
pub leads_one : {D : Type 0} {g : Ghosts D} (old new : Hub D g) (e : HubEvent) (outcome : Outcome) (q : HubLeads old new e outcome) → RunsAlone old new e
    → failures old ≤ failures new → RunLeads old new (λ h k. Adds h ((e, q.0) ∷ []) k)
leads_one old new e outcome q alone counted =
    leads_event old new _ e outcome q alone counted (λ h stands happens is after. record { run_is = refl; events_are = refl })

module _ {T D : Type 0} {g : Ghosts D} (IsNew : AcceptedSocket → ℕ → ℕ → T → Type 0) (hub : Hub D g) (next : ℕ) (slots : Slots T) (refused : ℕ) where
  pub none_come : NoneRuns hub → ComeEach IsNew hub next slots refused [] hub next slots refused
  none_come none = (Nobody, leads_none hub none _ (λ h stands. adds_none h), more_none refused)

  pub one_comes : Follow D g → (came : List AcceptedSocket) (accepted : AcceptedSocket) (mid later : Hub D g) (number then : ℕ) (between new : Slots T)
      (so_far counted : ℕ)
      → ComeEach IsNew hub next slots refused came mid number between so_far
      → Comes (IsNew accepted) mid number between so_far later then new counted
      → ComeEach IsNew hub next slots refused (came ++ accepted ∷ []) later then new counted
  one_comes follow came accepted mid later number then between new so_far counted each comes = (
    OneMore came accepted mid later number then between new each.0 comes.0,
    leads_then follow hub mid later _ _ (λ h k. Adds h (joins_of each.0 ++ join_of (IsNew accepted) mid number between later then new comes.0) k) each.1
        comes.1
        (λ h k l last p q. adds_then h k l (joins_of each.0) (join_of (IsNew accepted) mid number between later then new comes.0) p q),
    comes.2 ∙ ap (more (refusals_in (IsNew accepted) mid number between later then new comes.0)) each.2
        ∙ more_more (refusals_of each.0) (refusals_in (IsNew accepted) mid number between later then new comes.0) refused,
  )

-- ---- one that comes

module _ {T D : Type 0} {g : Ghosts D} (IsNew : ℕ → ℕ → T → Type 0) (hub : Hub D g) (next : ℕ) (slots new : Slots T) (same : new ≡ slots) where
  -- it is turned away before its session is to join
  pub away : NoneRuns hub → (cause : Refusal) → IsCause hub next slots hub cause → ComesAs IsNew hub next slots (Err cause) hub next new
  away none cause why = (
    inl (record { slots_are = same; next_is = refl; hub_is = inl refl; cause = cause; why = why }),
    refl,
    leads_none hub none _ (λ h stands. adds_none h),
  )

  -- so for memory, or by the system
  pub away_outside : NoneRuns hub → (cause : Refusal) → IsOutsideCause cause → ComesAs IsNew hub next slots (Err cause) hub next new
  away_outside none Room why = away none Room why
  away_outside none System why = away none System why
  away_outside none Numbers why = elim why [ ]
  away_outside none Full why = elim why [ ]
  away_outside none Session why = elim why [ ]

  -- its session could not join
  pub away_tried : (later : Hub D g) (outcome : Outcome) → outcome ≢ Done → HubLeads hub later (Joins next) outcome → RunsAlone hub later (Joins next)
      → failures hub ≤ failures later
      → ComesAs IsNew hub next slots (Err Session) later next new
  away_tried later outcome differs q alone counted = (
    inl (record { slots_are = same; next_is = refl; hub_is = inr (outcome, differs, q); cause = Session; why = (outcome, differs, q) }),
    refl,
    leads_one hub later (Joins next) outcome q alone counted,
  )

-- it came, and was counted
pub come_counted : {T D : Type 0} {g : Ghosts D} (IsNew : ℕ → ℕ → T → Type 0) (hub later : Hub D g) (next then refused counted : ℕ) (slots new : Slots T)
    (answer : Result (Unit {0}) Refusal) → ComesAs IsNew hub next slots answer later then new → counted ≡ more (refusals_as answer) refused
    → Comes IsNew hub next slots refused later then new counted
come_counted IsNew hub later next then refused counted slots new answer comes is = (comes.0, comes.2, is ∙ ap (λ a. more (refusals_as a) refused) comes.1)

-- a connection that an accept gave is the one that the system gave
pub given : (listener : ListeningSocket) (outcome : Result (AcceptedSocket × SocketAddr) Error) (answer : AcceptAnswer) → AcceptsAs outcome answer
    → IfOk outcome (λ g. WasAccepted listener g.0) → IsGiven listener answer
given listener (Ok accepted) answer is gave = subst (IsGiven listener) (sym is) gave
given listener (Err error) answer (inl (kind, is)) gave = subst (IsGiven listener) (sym is) tt
given listener (Err error) answer (inr (kind, is)) gave = subst (IsGiven listener) (sym is) tt
