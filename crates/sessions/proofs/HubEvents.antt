-- A hub's events, evaluated by the definitions.
use Rattle.std.proofs.Common.{flat_map, lit≤, lit<, ◌<◌, ◌≡◌, ℕ, suc, ◌-◌, List, [], ◌∷◌, ◌++◌, take, refl, codes}
use Rattle.std.proofs.Common.{replicate, zero, length, drop, Some, None, Option, false}
use Rattle.std.proofs.lemmas.List.Elements.{All-from_recursion}
use Rattle.std.specs.Fmt.{digits}
use Rattle.model.specs.Bounds.{inbox_max}
use Rattle.model.specs.CommandTable.{command_in, alone_in, get_in, set_in}
use Rattle.model.specs.Grammar.{array_of_bulks, IsPart, IsRequest, crlf}
use Rattle.model.specs.Machine.{step, opened}
use Rattle.model.specs.Map.{Bytes}
use Rattle.model.specs.Verdict.{verdict}
use Rattle.sessions.specs.SessionStreams.{Unknown, Idle, NoRoom, BadCount, HubState, ArePossible, HubEvent, Choice}
use Rattle.sessions.specs.SessionStreams.{hub_step, run, outcomes, stream_of, Joins, Receives, Serves, Sends, Leaves}
use Rattle.sessions.specs.SessionStreams.{Whole, More, SessionStream, Head, hub_over, Bad, Done}
use Rattle.sessions.specs.StandsFor.{room_in, pending_in, status_in}
use Rattle.sessions.specs.declared.events.Status.TheVariants.{Absent, Ending}

start : HubState
start = hub_over (opened [] 2 4096)

-- memory and the device hold
abbrev chosen : Head → Choice
chosen head = record { head = head; refused = false; failed = false }

-- ---- joins that are refused, two requests in one piece, a count that is too great

ping : Bytes
ping = array_of_bulks (codes "PING" ∷ [])

abbrev events : List (HubEvent × Choice)
events =
    (Joins 5, chosen More) ∷ (Joins 5, chosen More) ∷ (Joins 3, chosen More) ∷ (Serves 5, chosen More)
    ∷ (Receives 5 (ping ++ ping), chosen More) ∷ (Serves 5, chosen (Whole (codes "PING" ∷ []) 14)) ∷ (Serves 5, chosen More)
    ∷ (Sends 5 8, chosen More) ∷ (Sends 5 7, chosen More) ∷ (Serves 5, chosen (Whole (codes "PING" ∷ []) 14))
    ∷ (Receives 5 (replicate (suc inbox_max) 0), chosen More) ∷ (Leaves 5, chosen More) ∷ (Sends 5 0, chosen More) ∷ []

abbrev after : ℕ → HubState
after n = run start (take n events)

hub_events : outcomes start events ≡ Done ∷ Unknown ∷ Unknown ∷ Idle ∷ Done ∷ Done ∷ Idle ∷ BadCount ∷ Done ∷ Done ∷ NoRoom ∷ Done ∷ Unknown ∷ []
unfolding start ping hub_step digits step command_in alone_in
hub_events = refl

-- what stands there after so many of them
hub_events-after : (room_in (stream_of (after 5) 5) ≡ inbox_max - 28) × (pending_in (stream_of (after 6) 5) ≡ codes "+PONG" ++ 13 ∷ 10 ∷ [])
    × (room_in (stream_of (after 6) 5) ≡ inbox_max - 14) × (status_in (stream_of (after 13) 5) ≡ Absent)
unfolding start ping hub_step digits step command_in alone_in
hub_events-after = (refl, refl, refl, refl)

-- ---- the heads are those that the grammar finds

ping_is_part : IsPart (codes "PING")
ping_is_part = record { short = lit≤ tt; bytes = All-from_recursion (λ b. b < 256) (codes "PING") (lit< tt, (lit< tt, (lit< tt, (lit< tt, tt)))) }

ping_is_request : IsRequest (codes "PING" ∷ [])
ping_is_request = record { some = lit≤ tt; few = lit≤ tt; each = All-from_recursion IsPart (codes "PING" ∷ []) (ping_is_part, tt) }

also : {A B : Type 0} → A → B → A × B
also a b = (a, b)

hub_events-possible : ArePossible start events
unfolding start ping hub_step digits step command_in alone_in
hub_events-possible =
    also tt (also tt (also tt (also (λ _. ((ping, codes "PING" ∷ [], lit≤ tt, (ping_is_request, refl)), λ wrong. absurd (cc)))
    (also tt (also (λ _. ((lit≤ tt, (ping_is_request, refl)), λ wrong. absurd (cc))) (also (λ bad. absurd (cc)) (also tt (also tt
    (also (λ _. ((lit≤ tt, (ping_is_request, refl)), λ wrong. absurd (cc))) (also tt (also tt (also tt tt))))))))))))

-- ---- write skew by requests that come in pieces: however the bytes are cut, each session is sent the same bytes

abbrev sent_in : Option SessionStream → Bytes
sent_in None = []
sent_in (Some st) = st.sent

-- a text in pieces of k bytes, at most so many
abbrev pieces : ℕ → ℕ → ℕ → Bytes → List (HubEvent × Choice)
pieces zero k s text = []
pieces (suc n) k s [] = []
pieces (suc n) k s (b ∷ text) = (Receives s (take k (b ∷ text)), chosen More) ∷ pieces n k s (drop k (b ∷ text))

-- a request in pieces of k bytes, a Serve, and a reply of so many bytes
abbrev asks_in : ℕ → ℕ → List Bytes → ℕ → List (HubEvent × Choice)
asks_in k s parts n =
    pieces 100 k s (array_of_bulks parts) ++ (Serves s, chosen (Whole parts (length (array_of_bulks parts)))) ∷ (Sends s n, chosen More) ∷ []

-- each is of a session, of these parts, and has a reply of so many bytes
abbrev requests : List (ℕ × List Bytes × ℕ)
requests =
    (1, codes "BEGIN" ∷ [], 5) ∷ (1, codes "GET" ∷ codes "x" ∷ [], 5) ∷ (1, codes "GET" ∷ codes "y" ∷ [], 5)
    ∷ (2, codes "BEGIN" ∷ [], 5) ∷ (2, codes "GET" ∷ codes "x" ∷ [], 5) ∷ (2, codes "GET" ∷ codes "y" ∷ [], 5)
    ∷ (1, codes "SET" ∷ codes "x" ∷ codes "1" ∷ [], 5) ∷ (2, codes "SET" ∷ codes "y" ∷ codes "1" ∷ [], 5)
    ∷ (1, codes "COMMIT" ∷ [], 4) ∷ (2, codes "COMMIT" ∷ [], 22) ∷ []

abbrev write_skew : ℕ → HubState
write_skew k = run start ((Joins 1, chosen More) ∷ (Joins 2, chosen More) ∷ flat_map (λ (r : ℕ × List Bytes × ℕ). asks_in k r.0 r.1 r.2) requests)

abbrev first : Bytes
first = codes "+OK" ++ crlf ++ codes "$-1" ++ crlf ++ codes "$-1" ++ crlf ++ codes "+OK" ++ crlf ++ codes ":1" ++ crlf

abbrev second : Bytes
second = codes "+OK" ++ crlf ++ codes "$-1" ++ crlf ++ codes "$-1" ++ crlf ++ codes "+OK" ++ crlf ++ codes "-CONFLICT pivot self" ++ crlf

-- what the two are sent, where the pieces have k bytes
abbrev AreSent : ℕ → Type 0
AreSent k = (sent_in (stream_of (write_skew k) 1) ≡ first) × (sent_in (stream_of (write_skew k) 2) ≡ second)

write_skew-in_pieces : AreSent 1 × AreSent 2 × AreSent 3 × AreSent 7
unfolding start hub_step digits step command_in alone_in get_in set_in verdict
write_skew-in_pieces = ((refl, refl), (refl, refl), (refl, refl), (refl, refl))

-- ---- a request one byte at a time, a Serve after each

-- so many of its bytes, each with a Serve that finds no whole request yet
abbrev waiting : ℕ → ℕ → Bytes → List (HubEvent × Choice)
waiting zero s text = []
waiting (suc n) s [] = []
waiting (suc n) s (b ∷ text) = (Receives s (b ∷ []), chosen More) ∷ (Serves s, chosen More) ∷ waiting n s text

abbrev fourteen : HubState
fourteen = run start ((Joins 1, chosen More) ∷ waiting 14 1 (array_of_bulks (codes "BEGIN" ∷ [])))

bytes_one_at_a_time : (pending_in (stream_of fourteen 1) ≡ [])
    × (pending_in (stream_of (run fourteen ((Receives 1 (10 ∷ []), chosen More) ∷ (Serves 1, chosen (Whole (codes "BEGIN" ∷ []) 15)) ∷ [])) 1)
    ≡ codes "+OK" ++ crlf)
unfolding start hub_step digits step command_in alone_in
bytes_one_at_a_time = (refl, refl)

-- what begins no request
abbrev broken : HubState
broken = run start ((Joins 1, chosen More) ∷ (Receives 1 (codes "*01" ++ crlf), chosen More) ∷ (Serves 1, chosen Bad) ∷ [])

bytes_one_at_a_time-broken : (pending_in (stream_of broken 1) ≡ codes "-ERR frame" ++ crlf) × (status_in (stream_of broken 1) ≡ Ending)
unfolding start hub_step digits step command_in alone_in
bytes_one_at_a_time-broken = (refl, refl)
