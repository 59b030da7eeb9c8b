-- What one event does to the history of its session.
use Rattle.std.proofs.Common.{◌≡◌, ◌≢◌, ◌⊎◌, ℕ, ◌≤◌, Bool, nat_le, nat_lt, true, false, List, [], ◌∷◌, ◌++◌, length}
use Rattle.std.proofs.Common.{take, drop, Option, Some, None, refl, sym, ap, subst, ◌∙◌, arith, nat_cmp}
use Rattle.std.proofs.lemmas.Bool.Decides.{nat_tests}
use Rattle.std.proofs.lemmas.Grind.{common_steps}
use Rattle.std.proofs.lemmas.List.{append-nil, take-append-drop}
use Rattle.std.specs.BTreeMap.{is_at}
use Rattle.std.specs.List.{flat_map}
use Rattle.std.specs.Map.{lookup, set_value, remove_entry}
use Rattle.model.specs.Grammar.{IsProperBeginning}
use Rattle.model.specs.Machine.{State}
use Rattle.model.specs.Map.{Bytes}
use Rattle.model.specs.Operations.{Response}
use Rattle.model.specs.ReplyText.{reply_text}
use Rattle.engine.specs.Meaning.{has_risen}
use Rattle.sessions.specs.Laws.{failures_in}
use Rattle.sessions.specs.SessionStreams.{HubState, SessionState, SessionStream, HubEvent, Receives, Serves, Sends}
use Rattle.sessions.specs.SessionStreams.{Leaves, Head, IsHead, Choice, Effect, IsPossible, IsServePossible}
use Rattle.sessions.specs.SessionStreams.{hub_step, stream_of, with_stream, with_effect, disconnect, may_serve}
use Rattle.sessions.specs.SessionStreams.{serve_head, room}
use Rattle.sessions.specs.StandsFor.{status_in}
use Rattle.sessions.specs.declared.events.Outcome.{Outcome}
use Rattle.sessions.specs.declared.events.Outcome.TheVariants.{Done, Memory, Idle}
use Rattle.sessions.specs.declared.events.Status.TheVariants.{Absent, Open, Ending, Refused}
use Rattle.stream_driver.specs.Sessions.{Adds, Continues, Point, RunsOneSession, session_of, status_at, IsPresentIn}

-- ---- sessions in the list of those that are present, after one of them has changed or gone

abbrev pub test : ℕ → ℕ → Bool
test s = is_at (nat_cmp s)

same_number : (q s x : ℕ) → test q x ≡ true → test s x ≡ true → q ≡ s
same_number q s x a b = grind (arith, nat_tests)

module _ (s : ℕ) (w : SessionStream) where
  pub set-same : (es : List (ℕ × SessionStream)) (v : SessionStream) → lookup (test s) es ≡ Some v → lookup (test s) (set_value (test s) es w) ≡ Some w
  set-same [] v found = absurd (cc)
  set-same (e ∷ es) v found = grind (arith, common_steps, set-same es v)

  pub set-other : (es : List (ℕ × SessionStream)) (q : ℕ) → (q ≡ s → ⊥) → lookup (test q) (set_value (test s) es w) ≡ lookup (test q) es
  set-other [] q apart = refl
  set-other (e ∷ es) q apart = grind (arith, common_steps, same_number, nat_tests, set-other es q apart)

pub remove-other : (es : List (ℕ × SessionStream)) (q s : ℕ) → (q ≡ s → ⊥) → lookup (test q) (remove_entry (test s) es) ≡ lookup (test q) es
remove-other [] q s apart = refl
remove-other (e ∷ es) q s apart = grind (arith, common_steps, same_number, nat_tests, remove-other es q s apart)

-- ---- histories

pub found : (o : Option SessionStream) → status_in o ≢ Absent → (st : SessionStream) × (o ≡ Some st)
found None here = absurd (here refl)
found (Some st) here = (st, refl)

pub open_present : (h : HubState) (s : ℕ) → status_at h s ≡ Open → IsPresentIn h s
open_present h s is = λ gone. (let bad : Open ≡ Absent = sym is ∙ gone in cc)

-- each list of the history grows by so much
abbrev pub grows_by : (first last : SessionStream) (received : Bytes) (served : List (List Bytes)) (replies : List Response) (sent : Bytes)
    → last.received ≡ first.received ++ received → last.served ≡ first.served ++ served → last.replies ≡ first.replies ++ replies
    → last.sent ≡ first.sent ++ sent → sent ++ last.now.pending ≡ first.now.pending ++ flat_map reply_text replies → Continues first last
grows_by first last received served replies sent received_is served_is replies_is sent_is texts = search (received_is, served_is, replies_is, sent_is, texts)

abbrev pub still : {A : Type 0} (xs : List A) → xs ≡ xs ++ []
still xs = sym (append-nil xs)

-- nothing has happened
abbrev pub same_history : (st : SessionStream) → Continues st st
same_history st = grows_by st st [] [] [] [] (still st.received) (still st.served) (still st.replies) (still st.sent) (still st.now.pending)

abbrev pub adds_none : (p : Point) → Adds p [] p
adds_none p = record { run_is = refl; events_are = sym (append-nil p.events) }

abbrev pub no_events : (s : ℕ) (p : Point) → IsPresentIn p.hub s → RunsOneSession s p p
no_events s p present =
    let here = found (stream_of p.hub s) present in
    let counted : p.failures ≤ p.failures = omega arith in
    let risen : 1 ≤ failures_in [] → has_risen p.failures p.failures ≡ true = λ some. absurd (omega (arith, some)) in
    let others : (t : ℕ) → t ≢ s → stream_of p.hub t ≡ stream_of p.hub t = λ t apart. refl in
    search (adds_none p, counted, risen, here.1, same_history here.0, others)

-- an event that may happen so, after which so many calls of the device have failed
pub record Happens (p : Point) (e : HubEvent) (c : Choice) (count : ℕ) : Type 0 where
  pub possible : IsPossible p.hub e c
  pub counted : p.failures ≤ count
  pub failed : c.failed ≡ has_risen p.failures count

abbrev pub point_after : Point → HubEvent → Choice → ℕ → Point
point_after p e c count = record { hub = (hub_step p.hub e c).0; failures = count; events = p.events ++ e ∷ [] }

pub fails_then : (e : HubEvent) (c : Choice) (risen : Bool) → c.failed ≡ risen → 1 ≤ failures_in ((e, c) ∷ []) → risen ≡ true
fails_then e c risen same some = grind arith

-- one event that changes its session's history alone
abbrev pub one_event : (s : ℕ) (p : Point) (e : HubEvent) (c : Choice) (count : ℕ) (first last : SessionStream) → session_of e ≡ s → Happens p e c count
    → stream_of p.hub s ≡ Some first
    → (hub_step p.hub e c).0.present ≡ set_value (test s) p.hub.present last → Continues first last → last.now.status ≢ Absent
    → RunsOneSession s p (point_after p e c count)
one_event s p e c count first last own happens is changes history present =
    let adds : Adds p ((e, c) ∷ []) (point_after p e c count) = record { run_is = refl; events_are = refl } in
    let last_is = ap (lookup (test s)) changes ∙ set-same s last p.hub.present first is in
    let there = λ (gone : status_at (point_after p e c count).hub s ≡ Absent). present (sym (ap status_in last_is) ∙ gone) in
    let others = λ (t : ℕ) (apart : t ≢ s). ap (lookup (test t)) changes ∙ set-other s last p.hub.present t apart in
    search (adds, own, happens.possible, happens.counted, fails_then e c (has_risen p.failures count) happens.failed, is, last_is, history, there, others)

-- ---- bytes come in

abbrev pub received_by : SessionStream → Bytes → SessionStream
received_by st piece = record st {
  now = record { inbox = st.now.inbox ++ piece; pending = st.now.pending; status = st.now.status };
  received = st.received ++ piece;
}

pub receives : (h : HubState) (s : ℕ) (piece : Bytes) (c : Choice) (st : SessionStream) → stream_of h s ≡ Some st → st.now.status ≡ Open
    → length piece ≤ room st.now
    → hub_step h (Receives s piece) c ≡ (with_stream h s (received_by st piece), Done)
unfolding hub_step
receives h s piece c st is opened fits = let test : nat_lt (room st.now) (length piece) ≡ false = grind (arith, nat_tests) in rw (is, opened, test) refl

abbrev pub bytes_came : (st : SessionStream) (piece : Bytes) → Continues st (received_by st piece)
bytes_came st piece =
    grows_by st (received_by st piece) piece [] [] [] refl (still st.served) (still st.replies) (still st.sent) (still st.now.pending)

-- ---- bytes are sent

abbrev pub sent_from : SessionStream → ℕ → SessionStream
sent_from st n = record st {
  now = record { inbox = st.now.inbox; pending = drop n st.now.pending; status = st.now.status };
  sent = st.sent ++ take n st.now.pending;
}

pub sends : (h : HubState) (s n : ℕ) (c : Choice) (st : SessionStream) → stream_of h s ≡ Some st → n ≤ length st.now.pending
    → hub_step h (Sends s n) c ≡ (with_stream h s (sent_from st n), Done)
unfolding hub_step
sends h s n c st is fits = let test : nat_le n (length st.now.pending) ≡ true = grind (arith, nat_tests) in rw (is, test) refl

abbrev pub bytes_went : (st : SessionStream) (n : ℕ) → Continues st (sent_from st n)
bytes_went st n =
    grows_by st (sent_from st n) [] [] [] (take n st.now.pending) (still st.received) (still st.served) (still st.replies) refl
    (take-append-drop n st.now.pending ∙ still st.now.pending)

-- ---- a request is looked for

abbrev pub after_effect : SessionStream → Effect → SessionStream
after_effect st e = record st { now = e.now; served = st.served ++ e.served; replies = st.replies ++ e.replies }

pub serves : (h : HubState) (s : ℕ) (c : Choice) (st : SessionStream) → stream_of h s ≡ Some st → st.now.status ≡ Open → st.now.pending ≡ []
    → hub_step h (Serves s) c ≡ with_effect h s st (serve_head c.head c h.machine s st.now)
unfolding hub_step
serves h s c st is opened nothing = rw (is, opened, nothing) refl

-- the texts of the replies are pending
pub effect_texts : (head : Head) (c : Choice) (m : State) (s : ℕ) (n : SessionState) → n.pending ≡ []
    → (serve_head head c m s n).now.pending ≡ flat_map reply_text (serve_head head c m s n).replies
effect_texts head c m s n nothing = grind (arith, common_steps)

-- each reply has some text
reply_some : (r : Response) → reply_text r ≢ []
reply_some r = grind (arith, common_steps)

-- and stands in the output once a request was served
pub effect_replied : (head : Head) (c : Choice) (m : State) (s : ℕ) (n : SessionState) → (serve_head head c m s n).outcome ≡ Done
    → (serve_head head c m s n).now.pending ≢ []
effect_replied head c m s n done = grind (arith, common_steps, reply_some)

abbrev pub was_served : (st : SessionStream) (e : Effect) → st.now.pending ≡ [] → e.now.pending ≡ flat_map reply_text e.replies
    → Continues st (after_effect st e)
was_served st e nothing texts =
    grows_by st (after_effect st e) [] e.served e.replies [] (still st.received) refl refl (still st.sent)
    (texts ∙ sym (ap (λ l. l ++ flat_map reply_text e.replies) nothing))

-- what a request that is looked for comes to, by its outcome
abbrev pub Comes : Outcome → SessionState → Effect → Type 0
Comes Done n e = ((e.now.status ≡ Open) × (length e.served ≡ 1)) ⊎ ((e.now.status ≡ Ending) × (e.served ≡ []))
Comes Memory n e = (e.now.status ≡ Refused) × (e.served ≡ [])
Comes _ n e = (e.now ≡ n) × (e.served ≡ []) × (e.replies ≡ []) × IsProperBeginning n.inbox

comes : (head : Head) (c : Choice) (m : State) (s : ℕ) (n : SessionState) → IsHead n.inbox head
    → Comes (serve_head head c m s n).outcome n (serve_head head c m s n)
comes head c m s n is = grind (arith, common_steps)

pub comes_idle : (o : Outcome) (n : SessionState) (e : Effect) → o ≢ Done → o ≢ Memory → Comes o n e → Comes Idle n e
comes_idle o n e a b w = grind arith

pub one_each : (head : Head) (c : Choice) (m : State) (s : ℕ) (n : SessionState) → length (serve_head head c m s n).served ≤ 1
one_each head c m s n = grind arith

kept : (head : Head) (c : Choice) (m : State) (s : ℕ) (n : SessionState) → n.status ≢ Absent → (serve_head head c m s n).now.status ≢ Absent
kept head c m s n here = grind arith

-- the event of a Serve
module _ {s : ℕ} {p : Point} {c : Choice} {count : ℕ} {st : SessionStream} (is : stream_of p.hub s ≡ Some st) (opened : st.now.status
    ≡ Open) (nothing : st.now.pending ≡ []) (happens : Happens p (Serves s) c count) where
  abbrev h : HubState
  h = p.hub

  abbrev pub effect : Effect
  effect = serve_head c.head c h.machine s st.now

  pub serves_is : hub_step h (Serves s) c ≡ with_effect h s st effect
  serves_is = serves h s c st is opened nothing

  pub comes_to : Comes effect.outcome st.now effect
  comes_to =
      let here : IsServePossible h.machine s (Some st) c = subst (λ o. IsServePossible h.machine s o c) is happens.possible in
      let may : may_serve st.now ≡ true = rw (opened, nothing) refl in
      comes c.head c h.machine s st.now (here may).0

  pub status_kept : effect.now.status ≢ Absent
  status_kept = kept c.head c h.machine s st.now (λ gone. (let bad : Open ≡ Absent = sym opened ∙ gone in cc))

  abbrev pub served_event : RunsOneSession s p (point_after p (Serves s) c count)
  served_event = one_event s p (Serves s) c count st (after_effect st effect) refl happens is (ap (λ r. r.0.present) serves_is)
      (was_served st effect nothing (effect_texts c.head c h.machine s st.now nothing)) status_kept

-- ---- a session leaves

pub leaves_others : (h : HubState) (s : ℕ) (c : Choice) (t : ℕ) → t ≢ s → stream_of (hub_step h (Leaves s) c).0 t ≡ stream_of h t
unfolding hub_step
leaves_others h s c t apart =
    elim (stream_of h s) as (λ o. stream_of (disconnect o h s).0 t ≡ stream_of h t) [ None ↦ refl | Some st ↦ remove-other h.present t s apart ]
