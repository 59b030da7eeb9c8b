-- Every reply of a session over a store that was opened can be sent, and so its output has one reading.
use Rattle.model.specs.declared.refusals.Refusal.TheVariants as refusals
use Rattle.std.proofs.Common.{◌≡◌, ℕ, ◌<◌, ◌≤◌, Bool, List, [], ◌∷◌, ◌++◌, Some, None, refl, sym, ap, append-nil}
use Rattle.std.proofs.Common.{length-append, zero, suc, arith, length, All, IsTrue, Option, Result, Ok, Err}
use Rattle.std.proofs.Common.{if◌then◌else◌, ◌∙◌, not, subst, ◌==◌, nat_cmp, nat_le}
use Rattle.std.proofs.lemmas.Bool.{cond_both, and_parts}
use Rattle.std.proofs.lemmas.Bool.Decides.{nat_tests}
use Rattle.std.proofs.lemmas.Grind.{common_steps}
use Rattle.std.proofs.lemmas.List.{nil_from_length}
use Rattle.std.proofs.lemmas.List.Elements.{All-from_recursion, recursion_from_All}
use Rattle.std.specs.BTreeMap.{insert_entry, is_at}
use Rattle.std.specs.Fmt.{decimal}
use Rattle.std.specs.List.{AllByRecursion}
use Rattle.std.specs.Map.{lookup, remove_entry, set_value}
use Rattle.std.specs.Prelude.{codes}
use Rattle.std.specs.Str.{bytes_eq}
use Rattle.model.proofs.Answered.{by_case}
use Rattle.model.proofs.Elements.{all-append, all-each}
use Rattle.model.specs.CommandTable.{◌>>=◌, arity, is_key, key_in, end_in, or_limit, limit_in, number_up_to, alone_in}
use Rattle.model.specs.CommandTable.{get_in, set_in, del_in, range_in, command_in, part_at, is_named}
use Rattle.model.specs.Grammar.{IsPart, IsRequest}
use Rattle.model.specs.Laws.{IsOfForm}
use Rattle.model.specs.Machine.{State, opened, step}
use Rattle.model.specs.Map.{Bytes, KeyMap, IsInBounds}
use Rattle.model.specs.Operations.{Operation, Response}
use Rattle.model.specs.Operations.Operation.{Range, Set, Del, Get, Begin, Commit, Abort, Ping}
use Rattle.model.specs.Operations.Response.{Refused}
use Rattle.model.specs.declared.refusals.Refusal.{Refusal}
use Rattle.resp.proofs.Replies.{first_replies}
use Rattle.resp.specs.Replies.{IsSendable, texts_of}
use Rattle.sessions.proofs.Runs.{leads_to, ran_parts}
use Rattle.sessions.proofs.Sendable.{IsFitOperation, IsKeyOfBytes, IsFitState, leave_fits, step_fits}
use Rattle.sessions.specs.Laws.{Ran}
use Rattle.sessions.specs.Readings.{HasOneReading, HaveOneReading, RunsHaveOneReading}
use Rattle.sessions.specs.SessionStreams.{asks, or_faulty, HubState, SessionStream, HubEvent, Joins, Receives, Serves}
use Rattle.sessions.specs.SessionStreams.{Sends, Effect, SessionState, serve_choice, serve_head, served_with}
use Rattle.sessions.specs.SessionStreams.{out_of_memory, no_effect, may_serve, IsChoiceFor, IsHead, receive, send}
use Rattle.sessions.specs.SessionStreams.{disconnect, serve_session, join, stream_of, IsServePossible, is_above}
use Rattle.sessions.specs.SessionStreams.{new_stream, with_stream, Outcome, Leaves, Choice, IsPossible, ArePossible}
use Rattle.sessions.specs.SessionStreams.{hub_step, run, hub_over, Head, Whole, More, Bad}
use Rattle.sessions.specs.StandsFor.{Ghosts, Hub}

-- ---- requests

-- a result of this kind, or a fault of a request's form
abbrev Gives : {A : Type 0} → (A → Type 0) → Result A Refusal → Type 0
Gives P (Ok x) = P x
Gives P (Err refusal) = IsOfForm refusal

then_gives : {A B : Type 0} (P : A → Type 0) (Q : B → Type 0) (x : Result A Refusal) (f : A → Result B Refusal) → Gives P x
    → ((a : A) → P a → Gives Q (f a)) → Gives Q (x >>= f)
then_gives P Q (Ok a) f first rest = rest a first
then_gives P Q (Err e) f first rest = first

part_fits : (parts : List Bytes) (i : ℕ) → AllByRecursion IsPart parts → IsPart (part_at parts i)
part_fits [] i h = record { short = omega arith; bytes = grind (arith, common_steps) }
part_fits (p ∷ ps) zero h = h.0
part_fits (p ∷ ps) (suc i) h = part_fits ps i h.1

module _ (parts : List Bytes) (h : IsRequest parts) where
  part : (i : ℕ) → IsPart (part_at parts i)
  part i = part_fits parts i (recursion_from_All IsPart parts h.each)

  counts : (n : ℕ) → Gives (λ (u : Unit {0}). Unit {0}) (arity n parts)
  counts n = by_case (Gives (λ (u : Unit {0}). Unit {0})) (length parts == n) (Ok tt) (Err refusals.BadArguments) tt tt

  keys : (i : ℕ) → Gives IsKeyOfBytes (key_in (part_at parts i))
  keys i =
      let bytes : Bytes = part_at parts i in
      let all : AllByRecursion (λ b. b < 256) bytes = recursion_from_All (λ b. b < 256) bytes (part i).bytes in
      cond_both (is_key bytes) (Ok bytes) (Err refusals.BadKey) (Gives IsKeyOfBytes) (λ is. (grind (arith, nat_tests, and_parts), all)) (λ _. tt)

  ends : (i : ℕ) → Gives (λ (hi : Option Bytes). Unit {0}) (end_in (part_at parts i))
  ends i = by_case (Gives (λ (hi : Option Bytes). Unit {0})) (length (part_at parts i) == 0) (Ok None) _ tt
      (then_gives IsKeyOfBytes (λ (hi : Option Bytes). Unit {0}) (key_in (part_at parts i)) (λ key. Ok (Some key)) (keys i) (λ key is. tt))

up_to : (m : ℕ) (digits : List ℕ) → Gives (λ n. n ≤ m) (or_limit (number_up_to m digits))
unfolding number_up_to
up_to zero digits = tt
up_to (suc m) digits = by_case (λ o. Gives (λ n. n ≤ suc m) (or_limit o)) (bytes_eq digits (decimal (suc m))) _ _ (omega arith)
    (grind (arith, common_steps, up_to m digits))

abbrev GivesAsked : Result Operation Refusal → Type 0
GivesAsked r = Gives IsFitOperation r

module _ (parts : List Bytes) (h : IsRequest parts) where
  alone : (q : Operation) → IsFitOperation q → GivesAsked (alone_in q parts)
  unfolding alone_in
  alone q fits = then_gives (λ (u : Unit {0}). Unit {0}) IsFitOperation (arity 1 parts) (λ u. Ok q) (counts parts h 1) (λ u is. fits)

  gets : GivesAsked (get_in parts)
  unfolding get_in
  gets = then_gives (λ (u : Unit {0}). Unit {0}) IsFitOperation (arity 2 parts) _ (counts parts h 2)
      (λ u is. then_gives IsKeyOfBytes IsFitOperation (key_in (part_at parts 1)) (λ key. Ok (Get key)) (keys parts h 1) (λ key is. tt))

  sets : GivesAsked (set_in parts)
  unfolding set_in
  sets = then_gives (λ (u : Unit {0}). Unit {0}) IsFitOperation (arity 3 parts) _ (counts parts h 3)
      (λ u is. then_gives IsKeyOfBytes IsFitOperation (key_in (part_at parts 1)) (λ key. Ok (Set key (part_at parts 2))) (keys parts h 1)
      (λ key is. (is, (part parts h 2).short)))

  deletes : GivesAsked (del_in parts)
  unfolding del_in
  deletes = then_gives (λ (u : Unit {0}). Unit {0}) IsFitOperation (arity 2 parts) _ (counts parts h 2)
      (λ u is. then_gives IsKeyOfBytes IsFitOperation (key_in (part_at parts 1)) (λ key. Ok (Del key)) (keys parts h 1) (λ key is. is))

  ranges : GivesAsked (range_in parts)
  unfolding range_in
  ranges = then_gives (λ (u : Unit {0}). Unit {0}) IsFitOperation (arity 4 parts) _ (counts parts h 4)
      (λ u is. then_gives IsKeyOfBytes IsFitOperation (key_in (part_at parts 1)) _ (keys parts h 1)
      (λ lo is. then_gives (λ (hi : Option Bytes). Unit {0}) IsFitOperation (end_in (part_at parts 2)) _ (ends parts h 2)
      (λ hi is. then_gives (λ n. n ≤ 128) IsFitOperation (limit_in (part_at parts 3)) (λ limit. Ok (Range lo hi limit)) (up_to 128 (part_at parts 3))
      (λ limit few. few))))

  command : GivesAsked (command_in parts)
  unfolding command_in
  command = named (codes "BEGIN") (alone_in Begin parts) _ (alone Begin tt)
      (named (codes "GET") (get_in parts) _ gets (named (codes "SET") (set_in parts) _ sets (named (codes "DEL") (del_in parts) _ deletes
      (named (codes "RANGE") (range_in parts) _ ranges (named (codes "COMMIT") (alone_in Commit parts) _ (alone Commit tt)
      (named (codes "ABORT") (alone_in Abort parts) _ (alone Abort tt) (named (codes "PING") (alone_in Ping parts) _ (alone Ping tt) tt)))))))
    where
      named : (name : Bytes) (x y : Result Operation Refusal) → GivesAsked x → GivesAsked y → GivesAsked (if is_named parts name then x else y)
      named name x y p q = by_case GivesAsked (is_named parts name) x y p q

  -- what a request of the grammar asks
  pub asks_fits : IsFitOperation (asks parts)
  asks_fits = asked (command_in parts) command
    where
      asked : (r : Result Operation Refusal) → GivesAsked r → IsFitOperation (or_faulty r)
      asked (Ok q) fits = fits
      asked (Err refusal) of_form = can_send refusal of_form
        where
          can_send : (refusal : Refusal) → IsOfForm refusal → IsSendable (Refused refusal)
          can_send refusals.UnknownCommand h = tt
          can_send refusals.BadArguments h = tt
          can_send refusals.BadKey h = tt
          can_send refusals.BadLimit h = tt
          can_send refusal h = absurd h

-- ---- what a Serve replies

abbrev AreSendable : List Response → Type 0
AreSendable replies = AllByRecursion IsSendable replies

abbrev IsFitEffect : Effect → Type 0
IsFitEffect e = IsFitState e.machine × AreSendable e.replies

module _ (c : Choice) (m : State) (s : ℕ) (n : SessionState) (h : IsFitState m) where
  head_fits : (f : Head) → IsHead n.inbox f → IsFitEffect (serve_head f c m s n)
  head_fits (Whole parts used) head =
      let answer = step_fits m h s (asks parts) c.failed (asks_fits parts head.1.0) in
      by_case IsFitEffect c.refused (out_of_memory m s) (served_with (step m s (asks parts) c.failed) n parts used)
      (leave_fits m h s, tt) (answer.0, (answer.1, tt))
  head_fits More head = (h, tt)
  head_fits Bad head = (leave_fits m h s, (tt, tt))

  serve_fits : (IsTrue (may_serve n) → IsChoiceFor m s n.inbox c) → IsFitEffect (serve_choice c m s n)
  serve_fits possible = cond_both (may_serve n) (serve_head c.head c m s n) (no_effect m n) IsFitEffect
      (λ may. head_fits c.head (possible may).0) (λ _. (h, tt))

-- ---- the streams of a hub

abbrev AllSendable : List (ℕ × SessionStream) → Type 0
AllSendable es = AllByRecursion (λ e. AreSendable e.1.replies) es

module _ (t : ℕ → Bool) where
  sendable-lookup : (es : List (ℕ × SessionStream)) (st : SessionStream) → AllSendable es → lookup t es ≡ Some st → AreSendable st.replies
  sendable-lookup [] st a e = absurd (cc)
  sendable-lookup (x ∷ xs) st a e = grind (arith, common_steps, sendable-lookup xs st a.1)

  sendable-set : (es : List (ℕ × SessionStream)) (st : SessionStream) → AllSendable es → AreSendable st.replies → AllSendable (set_value t es st)
  sendable-set [] st a h = tt
  sendable-set (x ∷ xs) st a h = grind (arith, common_steps, sendable-set xs st a.1 h)

  sendable-remove : (es : List (ℕ × SessionStream)) → AllSendable es → AllSendable (remove_entry t es)
  sendable-remove [] a = tt
  sendable-remove (x ∷ xs) a = grind (arith, common_steps, sendable-remove xs a.1)

sendable-insert : (s : ℕ) (st : SessionStream) (es : List (ℕ × SessionStream)) → AllSendable es → AreSendable st.replies
    → AllSendable (insert_entry nat_cmp es s st)
sendable-insert s st [] a h = (h, tt)
sendable-insert s st (x ∷ xs) a h = grind (arith, common_steps, sendable-insert s st xs a.1 h)

pub record IsFitHub (h : HubState) : Type 0 where
  pub machine : IsFitState h.machine
  pub present : AllSendable h.present
  pub gone : AllSendable h.gone

module _ (h : HubState) (w : IsFitHub h) where
  stream_sendable : (s : ℕ) (st : SessionStream) → stream_of h s ≡ Some st → AreSendable st.replies
  stream_sendable s st is = sendable-lookup (is_at (nat_cmp s)) h.present st w.present is

  -- the session's stream in the place of its own, with the same replies
  with_same : (s : ℕ) (st : SessionStream) → AreSendable st.replies → IsFitHub (with_stream h s st)
  with_same s st all = record { machine = w.machine; present = sendable-set (is_at (nat_cmp s)) h.present st w.present all; gone = w.gone }

  received : (s : ℕ) (piece : Bytes) (o : Option SessionStream) → stream_of h s ≡ o → IsFitHub (receive o h s piece).0
  received s piece None is = w
  received s piece (Some st) is = grind (arith, common_steps, with_same, stream_sendable s st is)

  sent_fits : (s n : ℕ) (o : Option SessionStream) → stream_of h s ≡ o → IsFitHub (send o h s n).0
  sent_fits s n None is = w
  sent_fits s n (Some st) is = grind (arith, common_steps, with_same, stream_sendable s st is)

  left_fits : (s : ℕ) (o : Option SessionStream) → stream_of h s ≡ o → IsFitHub (disconnect o h s).0
  left_fits s None is = w
  left_fits s (Some st) is = record {
    machine = leave_fits h.machine w.machine s;
    present = sendable-remove (is_at (nat_cmp s)) h.present w.present;
    gone = all-append (λ (e : ℕ × SessionStream). AreSendable e.1.replies) h.gone ((s, st) ∷ []) w.gone (stream_sendable s st is, tt);
  }

  served_fits : (s : ℕ) (c : Choice) (o : Option SessionStream) → stream_of h s ≡ o → IsServePossible h.machine s o c
      → IsFitHub (serve_session o h s c).0
  served_fits s c None is possible = w
  served_fits s c (Some st) is possible =
      let effect = serve_fits c h.machine s st.now w.machine possible in
      record {
        machine = effect.0;
        present = sendable-set (is_at (nat_cmp s)) h.present _ w.present
            (all-append IsSendable st.replies (serve_choice c h.machine s st.now).replies (stream_sendable s st is) effect.1);
        gone = w.gone;
      }

  joined_fits : (s : ℕ) (refused : Bool) → IsFitHub (join h s refused).0
  joined_fits s refused =
      let P : HubState × Outcome → Type 0 = λ a. IsFitHub a.0 in
      let present = sendable-insert s new_stream h.present w.present tt in
      let joined : IsFitHub (record h { present = insert_entry nat_cmp h.present s new_stream; latest = Some s }) =
      record { machine = w.machine; present = present; gone = w.gone } in
      by_case P (not (is_above s h.latest)) _ _ w (by_case P (nat_le 128 (length h.present)) _ _ w (by_case P refused _ _ w joined))

hub_fits : (h : HubState) (e : HubEvent) (c : Choice) → IsPossible h e c → IsFitHub h → IsFitHub (hub_step h e c).0
unfolding hub_step
hub_fits h (Joins s) c possible w = joined_fits h w s c.refused
hub_fits h (Receives s piece) c possible w = received h w s piece (stream_of h s) refl
hub_fits h (Serves s) c possible w = served_fits h w s c (stream_of h s) refl possible
hub_fits h (Sends s n) c possible w = sent_fits h w s n (stream_of h s) refl
hub_fits h (Leaves s) c possible w = left_fits h w s (stream_of h s) refl

run_fits : (es : List (HubEvent × Choice)) (h : HubState) → ArePossible h es → IsFitHub h → IsFitHub (run h es)
run_fits [] h possible w = w
run_fits (e ∷ es) h possible w = run_fits es (hub_step h e.0 e.1).0 possible.1 (hub_fits h e.0 e.1 possible.0 w)

opened_fits : (map : KeyMap) (used count : ℕ) → IsInBounds map → IsFitHub (hub_over (opened map used count))
opened_fits map used count h = record { machine = record { base = h; few = omega arith; records = tt; running = tt }; present = tt; gone = tt }

-- ---- what is read

read_whole : (read all : List Response) → All IsSendable read → All IsSendable all → texts_of read ≡ texts_of all → read ≡ all
read_whole read all p q e =
    let one = first_replies read all [] p q (append-nil (texts_of read) ∙ e) in
    let other = first_replies all read [] q p (append-nil (texts_of all) ∙ sym e) in
    let none : one.0 ≡ [] = nil_from_length one.0
    (omega (arith, ap length one.1, ap length other.1, length-append read one.0, length-append all other.0)) in
    sym (one.1 ∙ ap (λ xs. read ++ xs) none ∙ append-nil read)

has_one_reading : (st : SessionStream) → AreSendable st.replies → HasOneReading st
has_one_reading st all = record {
  sendable = sendable;
  head = λ read more ok e. first_replies read st.replies more ok sendable e;
  whole = λ read ok e. read_whole read st.replies ok sendable e;
}
  where
    sendable : All IsSendable st.replies
    sendable = All-from_recursion IsSendable st.replies all

pub have_one_reading : (map : KeyMap) (used count : ℕ) (es : List (HubEvent × Choice)) → IsInBounds map → ArePossible (hub_over (opened map used count)) es
    → HaveOneReading (run (hub_over (opened map used count)) es)
have_one_reading map used count es bounded possible =
    let within = run_fits es (hub_over (opened map used count)) possible (opened_fits map used count bounded) in
    let each = λ (es : List (ℕ × SessionStream)) (all : AllSendable es). all-each (λ (e : ℕ × SessionStream). AreSendable e.1.replies)
    (λ e. HasOneReading e.1) es (λ e. has_one_reading e.1) all in
    record { present = each _ within.present; gone = each _ within.gone }

pub runs_have_one_reading : {D : Type 0} {g : Ghosts D} (hub : Hub D g) → RunsHaveOneReading hub
runs_have_one_reading {D} {g} hub served es fs is =
    let parts = ran_parts served.first hub es fs (subst (λ (xs : List (HubEvent × Choice)). Ran served.first hub xs) is served.ran) in
    let begins = served.start.begins in
    let h : HubState = hub_over (opened served.start.map begins.used (g.size served.start.dev)) in
    have_one_reading served.start.map begins.used (g.size served.start.dev) es served.start.in_bounds
    (leads_to served.first parts.0 es parts.1 h begins.stands).possible
