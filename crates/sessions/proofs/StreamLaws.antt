-- Every state that a hub stands for is lawful.
use Rattle.std.proofs.Common.{arith, ◌≡◌, ℕ, Bool, true, false, not, length, List, [], ◌∷◌, ◌++◌, take, drop, Option}
use Rattle.std.proofs.Common.{Some, None, IsTrue, refl, sym, ap, subst, ◌∙◌, nat_cmp, nat_le, nat_lt, if◌then◌else◌}
use Rattle.std.proofs.Common.{map, inl, inr, append_assoc}
use Rattle.std.proofs.lemmas.Bool.{cases_eq, cond_both, not-false}
use Rattle.std.proofs.lemmas.Grind.{common_steps}
use Rattle.std.proofs.lemmas.List.{append-nil, take-append-drop, map-append}
use Rattle.std.proofs.lemmas.List.Concat.{flat_map-append}
use Rattle.std.proofs.lemmas.List.Elements.{recursion_from_All}
use Rattle.std.specs.BTreeMap.{insert_entry, is_at}
use Rattle.std.specs.FinMap.Entries.{find, put}
use Rattle.std.specs.List.{AllByRecursion, flat_map}
use Rattle.std.specs.Map.{lookup, remove_entry, set_value}
use Rattle.model.proofs.Elements.{all-append}
use Rattle.model.proofs.Lookups.{some_same}
use Rattle.model.proofs.Steps.{running_of-with_running, running_of-leave}
use Rattle.model.specs.Laws.{IsIsolated}
use Rattle.model.specs.Machine.{State, Asks, IsReached, step, leave, Running, step_of, running_of, snapshot}
use Rattle.model.specs.Machine.{Leaves as LeavesIt}
use Rattle.model.specs.Map.{Bytes}
use Rattle.model.specs.Operations.{Operation, Response, Begin, Commit, Abort, Done}
use Rattle.model.specs.PrivateCopy.{copy_of, responses}
use Rattle.model.specs.ReplyText.{reply_text}
use Rattle.engine.proofs.Steps.{reached_next}
use Rattle.sessions.proofs.RequestSteps.{is_open_there, nothing_pending}
use Rattle.sessions.specs.Laws.{IsSessionStream, EndsStream, EndsItsStream, IsLawful, SameBytes, EndsOutput}
use Rattle.sessions.specs.Laws.{own_bytes}
use Rattle.sessions.specs.SessionStreams.{Outcome, bad_frame, is_above, HubState, SessionState, SessionStream}
use Rattle.sessions.specs.SessionStreams.{HubEvent, Joins, Receives, Serves, Sends, Leaves, Head, Whole, More, Bad}
use Rattle.sessions.specs.SessionStreams.{Choice, Effect, IsHead, IsChoiceFor, IsPossible, hub_step, stream_of}
use Rattle.sessions.specs.SessionStreams.{new_stream, is_open, may_serve, serve_choice, serve_head, out_of_memory}
use Rattle.sessions.specs.SessionStreams.{broken_frame, served_with, no_effect, asks, replies_text, receive}
use Rattle.sessions.specs.SessionStreams.{serve_session, send, disconnect, IsReachedHub, Begun, Continued}
use Rattle.sessions.specs.SessionStreams.{with_stream}

-- ---- the machine of a hub

-- what one event does to the machine
pub data Moved (c : Choice) (m : State) : State → Type 0 where
  Rests : Moved c m m
  Lets : (s : ℕ) → Moved c m (leave m s)
  Steps : (s : ℕ) (q : Operation) → Moved c m (step m s q c.failed).0

-- a test whose two answers have P
pub by_if : {A : Type 0} (P : A → Type 0) (b : Bool) (x y : A) → P x → P y → P (if b then x else y)
by_if P true x y p q = p
by_if P false x y p q = q

served_moves : (c : Choice) (m : State) (s : ℕ) (n : SessionState) → Moved c m (serve_choice c m s n).machine
served_moves c m s n = grind (arith, common_steps, Rests, Lets, Steps)

pub moved : (h : HubState) (e : HubEvent) (c : Choice) → Moved c h.machine (hub_step h e c).0.machine
unfolding hub_step
moved h e c = grind (arith, common_steps, Rests, Lets, Steps, served_moves)

pub reached_moved : (c : Choice) (m after : State) → IsReached m → Moved c m after → IsReached after
reached_moved c m after r Rests = r
reached_moved c m after r (Lets s) = reached_next m (LeavesIt s) r
reached_moved c m after r (Steps s q) = reached_next m (Asks s q c.failed) r

pub machine_reached : (h : HubState) → IsReachedHub h → IsReached h.machine
machine_reached h (Begun m r none) = r
machine_reached h (Continued g e c possible r) = reached_moved c g.machine _ (machine_reached g r) (moved g e c)

-- ---- the streams of a hub

abbrev AllStreams : List (ℕ × SessionStream) → Type 0
AllStreams es = AllByRecursion (λ e. IsSessionStream e.1) es

module _ (t : ℕ → Bool) where
  all-lookup : (es : List (ℕ × SessionStream)) (st : SessionStream) → AllStreams es → lookup t es ≡ Some st → IsSessionStream st
  all-lookup [] st a e = absurd (cc)
  all-lookup (x ∷ xs) st a e = grind (arith, common_steps, all-lookup xs st a.1)

  all-set : (es : List (ℕ × SessionStream)) (st : SessionStream) → AllStreams es → IsSessionStream st → AllStreams (set_value t es st)
  all-set [] st a h = tt
  all-set (x ∷ xs) st a h = grind (arith, common_steps, all-set xs st a.1 h)

  all-remove : (es : List (ℕ × SessionStream)) → AllStreams es → AllStreams (remove_entry t es)
  all-remove [] a = tt
  all-remove (x ∷ xs) a = grind (arith, common_steps, all-remove xs a.1)

all-insert : (s : ℕ) (st : SessionStream) (es : List (ℕ × SessionStream)) → AllStreams es → IsSessionStream st → AllStreams (insert_entry nat_cmp es s st)
all-insert s st [] a h = (h, tt)
all-insert s st (x ∷ xs) a h = grind (arith, common_steps, all-insert s st xs a.1 h)

pub record AreStreams (h : HubState) : Type 0 where
  pub present : AllStreams h.present
  pub gone : AllStreams h.gone

brought_more : (st : SessionStream) (piece : Bytes) → IsSessionStream st
    → IsSessionStream (record st {
      now = record { inbox = st.now.inbox ++ piece; pending = st.now.pending; status = st.now.status };
      received = st.received ++ piece;
    })
brought_more st piece h = grind (arith, common_steps)

sent_some : (st : SessionStream) (n : ℕ) → IsSessionStream st
    → IsSessionStream (record st {
      now = record { inbox = st.now.inbox; pending = drop n st.now.pending; status = st.now.status };
      sent = st.sent ++ take n st.now.pending;
    })
sent_some st n h = grind (arith, common_steps)

abbrev pub after_effect : SessionStream → Effect → SessionStream
after_effect st e = record st { now = e.now; served = st.served ++ e.served; replies = st.replies ++ e.replies }

module _ (st : SessionStream) (h : IsSessionStream st) (c : Choice) (m : State) (s : ℕ) where
  idle : IsSessionStream (after_effect st (no_effect m st.now))
  idle = grind (arith, common_steps)

  module _ (may : may_serve st.now ≡ true) where
    all_sent : replies_text st ≡ st.sent
    all_sent = h.output ∙ ap (λ xs. st.sent ++ xs) (nothing_pending (is_open st.now.status) st.now.pending may) ∙ append-nil st.sent

    one_more : (r : Response) → flat_map reply_text (st.replies ++ r ∷ []) ≡ st.sent ++ reply_text r
    one_more r = flat_map-append reply_text st.replies (r ∷ []) ∙ ap (λ ys. flat_map reply_text st.replies ++ ys) (append-nil (reply_text r))
        ∙ ap (λ xs. xs ++ reply_text r) all_sent

    whole : (parts : List Bytes) (used : ℕ) (answer : State × Response) → IsHead st.now.inbox (Whole parts used)
        → IsSessionStream (after_effect st (served_with answer st.now parts used))
    whole parts used answer head =
        let own = h.inbox (is_open_there st.now may) in
        let read = head.1.1 in
        record {
          rest = drop used st.now.inbox;
          input = grind (arith, common_steps, h.input, take-append-drop used st.now.inbox);
          inbox = λ _. refl;
          output = one_more answer.1;
        }

    starving : IsSessionStream (after_effect st (out_of_memory m s))
    starving = record {
      rest = h.rest;
      input = grind (arith, common_steps, h.input);
      inbox = λ bad. absurd (cc);
      output = grind (arith, common_steps, all_sent);
    }

    breaking : IsSessionStream (after_effect st (broken_frame m s))
    breaking = record { rest = h.rest; input = grind (arith, common_steps, h.input); inbox = λ bad. absurd (cc); output = one_more bad_frame }

    found : (f : Head) → IsHead st.now.inbox f → IsSessionStream (after_effect st (serve_head f c m s st.now))
    found (Whole parts used) head =
        let P : Effect → Type 0 = λ e. IsSessionStream (after_effect st e) in
        by_if P c.refused _ _ starving (whole parts used (step m s (asks parts) c.failed) head)
    found More head = idle
    found Bad head = breaking

  pub serving : (IsTrue (may_serve st.now) → IsChoiceFor m s st.now.inbox c) → IsSessionStream (after_effect st (serve_choice c m s st.now))
  serving possible =
      let P : Effect → Type 0 = λ e. IsSessionStream (after_effect st e) in
      cond_both (may_serve st.now) _ _ P (λ may. found may c.head (possible may).0) (λ _. idle)

pub streams_step : (h : HubState) (e : HubEvent) (c : Choice) → IsPossible h e c → AreStreams h → AreStreams (hub_step h e c).0
unfolding hub_step
streams_step h e c possible a =
    grind (
      arith,
      common_steps,
      all-lookup,
      all-insert,
      all-set,
      all-remove,
      all-append (λ (x : ℕ × SessionStream). IsSessionStream x.1),
      brought_more,
      sent_some,
      serving,
    )

pub are_streams : (h : HubState) → IsReachedHub h → AreStreams h
are_streams h (Begun m r none) = record { present = tt; gone = tt }
are_streams h (Continued g e c possible r) = streams_step g e c possible (are_streams g r)

-- ---- the replies of an open transaction are the last ones of its session

-- what a step does to the open transactions
pub data Ran (m : State) (s : ℕ) (q : Operation) (a : State × Response) : Type 0 where
  Kept : running_of m s ≡ None → a.0.running ≡ m.running → Ran m s q a
  Opened : (t : Running) → q ≡ Begin → a.1 ≡ Done → t.requests ≡ [] → t.replies ≡ [] → a.0.running ≡ put nat_cmp s t m.running → Ran m s q a
  Owned : (t after : Running) → running_of m s ≡ Some t → after.requests ≡ t.requests ++ q ∷ [] → after.replies ≡ t.replies ++ a.1 ∷ []
      → a.0.running ≡ put nat_cmp s after m.running → Ran m s q a
  Ended : a.0.running ≡ (leave m s).running → Ran m s q a

pub ran : (m : State) (s : ℕ) (q : Operation) (f : Bool) → Ran m s q (step m s q f)
unfolding step
ran m s q f = by (running_of m s) q refl
  where
    by : (o : Option Running) (q : Operation) → running_of m s ≡ o → Ran m s q (step_of o m s q f)
    by None Begin e = by_if (Ran m s Begin) m.stopped _ _ (Kept e refl)
        (by_if (Ran m s Begin) (nat_lt (length m.running) 64) _ _ (Opened _ refl refl refl refl refl) (Kept e refl))
    by None other e = Kept e refl
    by (Some t) Commit e = grind (arith, common_steps)
    by (Some t) Abort e = Ended refl
    by (Some t) other e = Owned t _ e refl refl refl

-- ---- looking sessions up

abbrev test : ℕ → ℕ → Bool
test s = is_at (nat_cmp s)

set-there : (es : List (ℕ × SessionStream)) (s : ℕ) (v x : SessionStream) → lookup (test s) es ≡ Some x → lookup (test s) (set_value (test s) es v) ≡ Some v
set-there [] s v x e = absurd (cc)
set-there (y ∷ ys) s v x e = grind (arith, common_steps, set-there ys s v x)

set-apart : (es : List (ℕ × SessionStream)) (q s : ℕ) (v : SessionStream) → (q ≡ s → ⊥) → lookup (test q) (set_value (test s) es v) ≡ lookup (test q) es
set-apart [] q s v apart = refl
set-apart (y ∷ ys) q s v apart = grind (arith, common_steps, set-apart ys q s v apart)

remove-apart : (es : List (ℕ × SessionStream)) (q s : ℕ) → (q ≡ s → ⊥) → lookup (test q) (remove_entry (test s) es) ≡ lookup (test q) es
remove-apart [] q s apart = refl
remove-apart (y ∷ ys) q s apart = grind (arith, common_steps, remove-apart ys q s apart)

insert-apart : (es : List (ℕ × SessionStream)) (q s : ℕ) (v : SessionStream) → (q ≡ s → ⊥) → lookup (test q) (insert_entry nat_cmp es s v) ≡ lookup (test q) es
insert-apart [] q s v apart = grind (arith, common_steps)
insert-apart (y ∷ ys) q s v apart = grind (arith, common_steps, insert-apart ys q s v apart)

-- ---- open transactions after a step

put-apart : (m : State) (s q : ℕ) (t : Running) → (q ≡ s → ⊥) → find nat_cmp q (put nat_cmp s t m.running) ≡ running_of m q
put-apart m s q t apart = grind (arith, common_steps, running_of-with_running)

put-same : (m : State) (s : ℕ) (t : Running) → find nat_cmp s (put nat_cmp s t m.running) ≡ Some t
put-same m s t = grind (arith, common_steps, running_of-with_running)

left-some : (m : State) (s q : ℕ) (t : Running) → running_of (leave m s) q ≡ Some t → (q ≡ s → ⊥) × (running_of m q ≡ Some t)
left-some m s q t e = grind (arith, common_steps, running_of-leave)

-- ---- the requests and replies of open transactions stay the last ones

pub record Invariant (h : HubState) : Type 0 where
  pub known : (q : ℕ) (x : SessionStream) → stream_of h q ≡ Some x → is_above q h.latest ≡ false
  pub ends : (q : ℕ) (t : Running) → running_of h.machine q ≡ Some t → EndsItsStream h q t

module _ (h : HubState) (invariant : Invariant h) (s : ℕ) (st : SessionStream) (is : stream_of h s ≡ Some st) where
  known_too : (q : ℕ) (x : SessionStream) → ((q ≡ s → ⊥) → stream_of h q ≡ Some x) → is_above q h.latest ≡ false
  known_too q x there = elim (cases_eq q s) [
    | inl same ↦ subst (λ (k : ℕ). is_above k h.latest ≡ false) (sym same) (invariant.known s st is)
    | inr apart ↦ invariant.known q x (there apart)
  ]

  -- one session changed, and with it its transaction at most
  changed : (v : SessionStream) (m : State) → ((q : ℕ) (t : Running) → (q ≡ s → ⊥) → running_of m q ≡ Some t → running_of h.machine q ≡ Some t)
      → ((t : Running) → running_of m s ≡ Some t → EndsStream v t) → Invariant (record (with_stream h s v) { machine = m })
  changed v m others its = record {
    known = λ q x e. known_too q x (λ apart. sym (set-apart h.present q s v apart) ∙ e);
    ends = λ q t e. elim (cases_eq q s) [
      | inl same ↦
          let L : ℕ → Type 0 = λ k. lookup (test k) (set_value (test s) h.present v) ≡ Some v in
          (v, subst L (sym same) (set-there h.present s v st is), its t (ap (running_of m) (sym same) ∙ e))
      | inr apart ↦ let o = invariant.ends q t (others q t apart e) in (o.0, set-apart h.present q s v apart ∙ o.1, o.2)
    ];
  }

  -- what the session had
  had : (t : Running) → running_of h.machine s ≡ Some t → EndsStream st t
  had t e = let o = invariant.ends s t e in subst (λ (x : SessionStream). EndsStream x t) (some_same (sym o.1 ∙ is)) o.2

  same_session : (v : SessionStream) → v.replies ≡ st.replies → v.served ≡ st.served → Invariant (with_stream h s v)
  same_session v replies served = changed v h.machine (λ q t apart k. k) (λ t k. let o = had t k in grind (arith, common_steps))

  ended : (v : SessionStream) → Invariant (record (with_stream h s v) { machine = leave h.machine s })
  ended v = changed v (leave h.machine s) (λ q t apart e. (left-some h.machine s q t e).1) (λ t e. absurd ((left-some h.machine s s t e).0 refl))

  stepped : (parts : List Bytes) (f : Bool) (v : SessionStream) → v.replies ≡ st.replies ++ (step h.machine s (asks parts) f).1 ∷ []
      → v.served ≡ st.served ++ parts ∷ [] →
      Invariant (record (with_stream h s v) { machine = (step h.machine s (asks parts) f).0 })
  stepped parts f v replies served = by (ran h.machine s (asks parts) f)
    where
      asked_all : map asks v.served ≡ map asks st.served ++ asks parts ∷ []
      asked_all = ap (map asks) served ∙ map-append asks st.served (parts ∷ [])

      by : Ran h.machine s (asks parts) (step h.machine s (asks parts) f)
          → Invariant (record (with_stream h s v) { machine = (step h.machine s (asks parts) f).0 })
      by (Kept none e) = changed v _ (λ q t apart k. sym (ap (find nat_cmp q) e)
          ∙ k) (λ t k. (let bad : None ≡ Some t = sym none ∙ sym (ap (find nat_cmp s) e) ∙ k in absurd (cc)))
      by (Opened begun begins answered no_requests no_replies e) =
          changed v _ (λ q t apart k. sym (put-apart h.machine s q begun apart) ∙ sym (ap (find nat_cmp q) e) ∙ k) (λ t k.
          let same : begun ≡ t = some_same (sym (put-same h.machine s begun) ∙ sym (ap (find nat_cmp s) e) ∙ k) in grind (arith, common_steps, asked_all))
      by (Owned before after was requests_are replies_are e) =
          changed v _ (λ q t apart k. sym (put-apart h.machine s q after apart) ∙ sym (ap (find nat_cmp q) e) ∙ k) (λ t k.
          let same : after ≡ t = some_same (sym (put-same h.machine s after) ∙ sym (ap (find nat_cmp s) e) ∙ k) in
          let o = had before was in grind (arith, common_steps, asked_all))
      by (Ended e) = changed v _ (λ q t apart k. (left-some h.machine s q t (sym (ap (find nat_cmp q) e) ∙ k)).1)
          (λ t k. absurd ((left-some h.machine s s t (sym (ap (find nat_cmp s) e) ∙ k)).0 refl))

  served : (c : Choice) → Invariant (record (with_stream h s (after_effect st (serve_choice c h.machine s st.now)))
      { machine = (serve_choice c h.machine s st.now).machine })
  served c = grind (arith, common_steps, by_if, after_effect, same_session, ended, stepped)

  parted : Invariant (record { machine = leave h.machine s; present = remove_entry (test s) h.present; gone = h.gone ++ (s, st) ∷ []; latest = h.latest })
  parted = grind (arith, common_steps, known_too, left-some, remove-apart)

joined_too : (h : HubState) → Invariant h → (s : ℕ) → is_above s h.latest ≡ true
    → Invariant (record h { present = insert_entry nat_cmp h.present s new_stream; latest = Some s })
joined_too h invariant s above = grind (arith, common_steps, cases_eq, insert-apart)

pub invariant_step : (h : HubState) (e : HubEvent) (c : Choice) → Invariant h → Invariant (hub_step h e c).0
unfolding hub_step
invariant_step h (Joins s) c invariant =
    let P : HubState × Outcome → Type 0 = λ r. Invariant r.0 in
    let joined = λ (above : not (is_above s h.latest) ≡ false). joined_too h invariant s (not-false (is_above s h.latest) above) in
    cond_both (not (is_above s h.latest)) _ _ P (λ _. invariant)
    (λ above. by_if P (nat_le 128 (length h.present)) _ _ invariant (by_if P c.refused _ _ invariant (joined above)))
invariant_step h (Receives s piece) c invariant = brought (stream_of h s) refl
  where
    brought : (o : Option SessionStream) → stream_of h s ≡ o → Invariant (receive o h s piece).0
    brought o is = grind (arith, common_steps, by_if, nat_lt, same_session)
invariant_step h (Serves s) c invariant =
    elim (stream_of h s) as (λ o. stream_of h s ≡ o
    → Invariant (serve_session o h s c).0) [ None ↦ λ e. invariant | Some st ↦ λ e. served h invariant s st e c ] refl
invariant_step h (Sends s n) c invariant = sent (stream_of h s) refl
  where
    sent : (o : Option SessionStream) → stream_of h s ≡ o → Invariant (send o h s n).0
    sent o is = grind (arith, common_steps, by_if, nat_le, same_session)
invariant_step h (Leaves s) c invariant =
    elim (stream_of h s) as (λ o. stream_of h s ≡ o → Invariant (disconnect o h s).0) [ None ↦ λ e. invariant | Some st ↦ λ e. parted h invariant s st e ] refl

pub always : (h : HubState) → IsReachedHub h → Invariant h
always h (Begun m r none) = grind (arith, common_steps)
always h (Continued g e c possible r) = invariant_step g e c (always g r)

-- ---- they are the private copy's

all_find : (P : Running → Type 0) (s : ℕ) (es : List (ℕ × Running)) (t : Running) → AllByRecursion (λ e. P e.1) es → find nat_cmp s es ≡ Some t → P t
all_find P s [] t a e = absurd (cc)
all_find P s (x ∷ xs) t a e = grind (arith, common_steps, all_find P s xs t a.1)

private_replies : (m : State) (s : ℕ) (t : Running) → IsIsolated m → running_of m s ≡ Some t → t.replies ≡ responses (copy_of (snapshot m t)) t.requests
private_replies m s t isolated e =
    let P : Running → Type 0 = λ x. x.replies ≡ responses (copy_of (snapshot m x)) x.requests in
    all_find P s m.running t (recursion_from_All (λ (e : ℕ × Running). P e.1) m.running isolated) e

-- the session's output ends with its transaction's replies
ends_output : (h : HubState) (s : ℕ) (t : Running) → IsLawful h → running_of h.machine s ≡ Some t → EndsOutput h s (own_bytes t)
ends_output h s t law e =
    let o = law.transactions s t e in
    let first = o.2.earlier ++ Done ∷ [] in
    let apart = ap (flat_map reply_text) (o.2.replies ∙ sym (append_assoc o.2.earlier (Done ∷ []) t.replies)) ∙ flat_map-append reply_text first t.replies in
    (o.0, flat_map reply_text first, o.1, apart)

pub same_bytes : SameBytes
same_bytes h k s r t u a b e f alike requests =
    let same : t.replies ≡ u.replies =
    private_replies h.machine s t a.isolated e ∙ ap (λ c. responses (copy_of c) t.requests) alike
    ∙ ap (λ qs. responses (copy_of (snapshot k.machine u)) qs) requests ∙ sym (private_replies k.machine r u b.isolated f) in
    record {
      replies = same;
      first = ends_output h s t a e;
      second = subst (EndsOutput k r) (sym (ap (flat_map reply_text) same)) (ends_output k r u b f);
    }
