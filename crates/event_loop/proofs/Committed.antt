-- Each number that a session was answered is that of a transaction in the machine's history.
use Rattle.std.proofs.Common.{◌≡◌, ◌+◌, ℕ, Bool, List, [], ◌∷◌, ◌++◌, map, Option, Some, None, refl, sym, ap, subst}
use Rattle.std.proofs.Common.{◌∙◌, append_assoc, arith}
use Rattle.std.proofs.lemmas.Grind.{common_steps}
use Rattle.std.proofs.lemmas.List.{append-nil, map-append}
use Rattle.std.proofs.lemmas.List.Elements.{All-nil, All-weaker, Contains-append_left, Contains-push}
use Rattle.std.proofs.lemmas.Map.Views.{All-map-remove_entry, All-values-insert_entry, All-values-set_value}
use Rattle.std.proofs.lemmas.Map.Views.{IfSome-lookup_from_All}
use Rattle.std.specs.BTreeMap.{is_at}
use Rattle.std.specs.List.{All, AllByRecursion, Contains}
use Rattle.std.specs.Map.{values_of}
use Rattle.std.specs.Ordering.{nat_cmp}
use Rattle.std.specs.Prelude.{◌==◌, ◌^◌, ◌-◌, IfSome, nat_le, nat_lt, length, not}
use Rattle.model.proofs.Elements.{all-append, all-each}
use Rattle.model.specs.History.{Record}
use Rattle.model.specs.Machine.{State, Running, body_sectors, commit, join_history, last, record_to_commit}
use Rattle.model.specs.Machine.{running_of, snapshot, step, step_of, store, store_unless}
use Rattle.model.specs.Map.{KeyWrite}
use Rattle.model.specs.Operations.{Operation, Response}
use Rattle.model.specs.Operations.Operation.{Begin, Commit, Abort}
use Rattle.model.specs.Operations.Response.{Number}
use Rattle.model.specs.PrivateCopy.{PrivateCopy, copy_after, copy_of, respond}
use Rattle.model.specs.Verdict.{verdict}
use Rattle.model.specs.declared.refusals.Refusal.{Refusal}
use Rattle.sessions.proofs.FoundMapLaws.{CommitsBy, commits_in_event}
use Rattle.sessions.proofs.FoundMapLaws.CommitsBy.{Fails, NoMore, OneMore}
use Rattle.sessions.specs.SessionStreams.{HubState, HubEvent, Choice, Effect, Head, SessionState, SessionStream}
use Rattle.sessions.specs.SessionStreams.{Joins, Receives, Serves, Sends, Whole, More, Bad, asks, disconnect}
use Rattle.sessions.specs.SessionStreams.{hub_step, is_open, may_serve, new_stream, receive, room, run, send}
use Rattle.sessions.specs.SessionStreams.{serve_choice, serve_head, serve_session, stream_of, Leaves}
use Rattle.sessions.specs.declared.events.Outcome.{Outcome}
use Rattle.stream_driver.proofs.Carry.{run_then}
use Rattle.event_loop.proofs.Present.{by_if, join_step}
use Rattle.event_loop.specs.Departures.{IsCommitted}

-- ---- the history grows

grows : (history more : List Record) (q : Response) → IsCommitted history q → IsCommitted (history ++ more) q
grows history more (Number n) c =
    subst (λ ns. Contains ns n) (sym (map-append (λ (r : Record). r.commit) history more))
    (Contains-append_left (map (λ r. r.commit) history) (map (λ r. r.commit) more) n c)
grows history more _ c = tt

abbrev pub AreCommitted : List Record → List Response → Type 0
AreCommitted history qs = AllByRecursion (IsCommitted history) qs

grow : (history more : List Record) (qs : List Response) → AreCommitted history qs → AreCommitted (history ++ more) qs
grow history more qs all = all-each (IsCommitted history) (IsCommitted (history ++ more)) qs (grows history more) all

-- ---- one step of the machine

-- the history goes on, and a number that is answered is in it
abbrev Goes : State → State → List Response → Type 0
Goes m n qs = (more : List Record) × (n.history ≡ m.history ++ more) × AreCommitted n.history qs

abbrev Answers : State → State × Response → Type 0
Answers m a = Goes m a.0 (a.1 ∷ [])

-- no number
respond_other : (c : PrivateCopy) (q : Operation) (history : List Record) → IsCommitted history (respond c q).0
respond_other c q history = grind (arith, common_steps)

module _ (m : State) (s : ℕ) (f : Bool) where
  module _ (t : Running) where
    abbrev r : Record
    r = record_to_commit m t

    joins : (sectors : ℕ) → Answers m (join_history m s r sectors)
    joins sectors = (
      r ∷ [],
      refl,
      (
        subst (λ ns. Contains ns r.commit) (sym (map-append (λ (x : Record). x.commit) m.history (r ∷ [])))
            (Contains-push (map (λ x. x.commit) m.history) r.commit),
        tt,
      ),
    )

    stores : (ws : List KeyWrite) → Answers m (store m s r ws f)
    stores [] = joins 0
    stores (w ∷ ws) =
        by_if (Answers m) (nat_le m.count (m.used + body_sectors (w ∷ ws))) _ _ (
          [],
          sym (append-nil m.history),
          (tt, tt),
        ) (by_if (Answers m) f _ _ ([], sym (append-nil m.history), (tt, tt)) (joins (body_sectors (w ∷ ws) + 1)))

    stores_unless : (o : Option Refusal) → Answers m (store_unless o m s r f)
    stores_unless None = stores r.writes
    stores_unless (Some conflict) = ([], sym (append-nil m.history), (tt, tt))

    commits : Answers m (commit m s t f)
    commits =
        by_if (Answers m) m.stopped _ _ (
          [],
          sym (append-nil m.history),
          (tt, tt),
        ) (by_if (Answers m) (last m == 2 ^ 63 - 1) _ _ ([], sym (append-nil m.history), (tt, tt)) (stores_unless (verdict m.history r)))

    abbrev copy : PrivateCopy
    copy = copy_after (copy_of (snapshot m t)) t.requests

    inside : (q : Operation) → Answers m (step_of (Some t) m s q f)
    inside Commit = commits
    inside Abort = ([], sym (append-nil m.history), (tt, tt))
    inside q = ([], sym (append-nil m.history), (respond_other copy q m.history, tt))

  outside : (q : Operation) → Answers m (step_of None m s q f)
  outside Begin = by_if (Answers m) m.stopped _ _ (
    [],
    sym (append-nil m.history),
    (tt, tt),
  ) (by_if (Answers m) (nat_lt (length m.running) 64) _ _ ([], sym (append-nil m.history), (tt, tt)) ([], sym (append-nil m.history), (tt, tt)))
  outside _ = ([], sym (append-nil m.history), (tt, tt))

  steps : (q : Operation) → Answers m (step m s q f)
  unfolding step
  steps q = elim (running_of m s) as (λ o. Answers m (step_of o m s q f)) [ None ↦ outside q | Some t ↦ inside t q ]

-- ---- one request

abbrev Replies : State → Effect → Type 0
Replies m e = Goes m e.machine e.replies

served : (c : Choice) (m : State) (s : ℕ) (n : SessionState) → Replies m (serve_choice c m s n)
served c m s n = by_if (Replies m) (may_serve n) _ _ (by c.head) ([], sym (append-nil m.history), tt)
  where
    by : (f : Head) → Replies m (serve_head f c m s n)
    by (Whole parts used) = by_if (Replies m) c.refused _ _ ([], sym (append-nil m.history), tt) (steps m s c.failed (asks parts))
    by More = ([], sym (append-nil m.history), tt)
    by Bad = ([], sym (append-nil m.history), (tt, tt))

-- ---- the sessions that are present

abbrev Has : List Record → SessionStream → Type 0
Has history st = AreCommitted history st.replies

abbrev pub HubNumbers : HubState → Type 0
HubNumbers h = All (Has h.machine.history) (values_of h.present)

found : (h : HubState) (s : ℕ) (st : SessionStream) → HubNumbers h → stream_of h s ≡ Some st → Has h.machine.history st
found h s st a e = subst (λ o. IfSome o (Has h.machine.history)) e (IfSome-lookup_from_All (Has h.machine.history) (is_at (nat_cmp s)) h.present a)

abbrev After : HubState × Outcome → Type 0
After r = HubNumbers r.0

in_step : (h : HubState) (e : HubEvent) (c : Choice) → HubNumbers h → HubNumbers (hub_step h e c).0
unfolding hub_step
in_step h (Joins s) c a = join_step h s c After (λ outcome differs. a) (All-values-insert_entry nat_cmp s new_stream (Has h.machine.history) h.present a tt)
in_step h (Receives s piece) c a = elim (stream_of h s) as (λ o. stream_of h s ≡ o → After (receive o h s piece)) [
  | None ↦ λ e. a
  | Some st ↦ λ e.
      by_if After (not (is_open st.now.status)) _ _ a
      (by_if After (nat_lt (room st.now) (length piece)) _ _ a
      (All-values-set_value (is_at (nat_cmp s)) (Has h.machine.history) h.present _ a (found h s st a e)))
] refl
in_step h (Serves s) c a = elim (stream_of h s) as (λ o. stream_of h s ≡ o → After (serve_session o h s c)) [
  | None ↦ λ e. a
  | Some st ↦ λ e.
      let effect = serve_choice c h.machine s st.now in
      let x = served c h.machine s st.now in
      let grown : (v : SessionStream) → Has h.machine.history v → Has effect.machine.history v = λ v all. rw x.1 (grow h.machine.history x.0 v.replies all) in
      All-values-set_value (is_at (nat_cmp s)) (Has effect.machine.history) h.present _
      (All-weaker (Has h.machine.history) (Has effect.machine.history) grown (values_of h.present) a)
      (all-append (IsCommitted effect.machine.history) st.replies effect.replies (grown st (found h s st a e)) x.2)
] refl
in_step h (Sends s n) c a = elim (stream_of h s) as (λ o. stream_of h s ≡ o → After (send o h s n)) [
  | None ↦ λ e. a
  | Some st ↦ λ e. by_if After (nat_le n (length st.now.pending)) _ _
      (All-values-set_value (is_at (nat_cmp s)) (Has h.machine.history) h.present _ a (found h s st a e)) a
] refl
in_step h (Leaves s) c a = elim (stream_of h s) as (λ o. After (disconnect o h s)) [
  | None ↦ a
  | Some st ↦ All-map-remove_entry (is_at (nat_cmp s)) (λ e. e.1) (Has h.machine.history) h.present a
]

in_run : (h : HubState) (es : List (HubEvent × Choice)) → HubNumbers h → HubNumbers (run h es)
in_run h [] a = a
in_run h (e ∷ es) a = in_run (hub_step h e.0 e.1).0 es (in_step h e.0 e.1 a)

-- ---- what was answered in a run is committed at its end

abbrev pub Grown : State → State → Type 0
Grown m n = (more : List Record) × (n.history ≡ m.history ++ more)

one_grown : (m : State) (f : Bool) (n : State) → CommitsBy m f n → Grown m n
one_grown m f n (NoMore base is stopped) = ([], is ∙ sym (append-nil m.history))
one_grown m f n (OneMore r up base is stopped) = (r ∷ [], is)
one_grown m f n (Fails failed up base is stopped) = ([], is ∙ sym (append-nil m.history))

pub run_grown : (h : HubState) (es : List (HubEvent × Choice)) → Grown h.machine (run h es).machine
run_grown h [] = ([], sym (append-nil h.machine.history))
run_grown h (e ∷ es) =
    let one = one_grown h.machine e.1.failed (hub_step h e.0 e.1).0.machine (commits_in_event h e.0 e.1) in
    let more = run_grown (hub_step h e.0 e.1).0 es in
    (one.0 ++ more.0, more.1 ∙ ap (λ l. l ++ more.0) one.1 ∙ append_assoc h.machine.history one.0 more.0)

pub answered_committed : (h : HubState) (by since : List (HubEvent × Choice)) (s : ℕ) (st : SessionStream) → h.present ≡ [] → stream_of (run h by) s ≡ Some st
    → AllByRecursion (IsCommitted (run h (by ++ since)).machine.history) st.replies
answered_committed h by since s st none is =
    let grown = run_grown (run h by) since in
    let nobody : HubNumbers h = subst (λ es. All (Has h.machine.history) (values_of es)) (sym none) (All-nil (Has h.machine.history)) in
    rw (run_then h by since, grown.1) (grow (run h by).machine.history grown.0 st.replies (found (run h by) s st (in_run h by nobody) is))
