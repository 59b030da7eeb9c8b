-- The byte streams of sessions over the machine, and what each event does to them.
use Rattle.std.specs.BTreeMap.{insert_entry, is_at}
use Rattle.std.specs.Map.{lookup, remove_entry, set_value}
use Rattle.std.specs.Ordering.{nat_cmp}
use Rattle.std.specs.Prelude.{◌≡◌, ℕ, ◌-◌, ◌≤◌, Bool, true, false, not, nat_le, nat_lt, ◌==◌, if◌then◌else◌, List, []}
use Rattle.std.specs.Prelude.{◌∷◌, ◌++◌, length, take, drop, Option, Some, None, Result, Ok, Err, IsTrue, IsFalse, ⊤}
use Rattle.std.specs.Prelude.{flat_map}
use Rattle.model.specs.Bounds.{inbox_max}
use Rattle.model.specs.CommandTable.{command_in}
use Rattle.model.specs.Grammar.{Spells, IsProperBeginning, array_of_bulks}
use Rattle.model.specs.Machine.{State, step, leave, IsReached}
use Rattle.model.specs.Map.{Bytes}
use Rattle.model.specs.Operations.{Operation, Response, Abort, Ping, Faulty, Refused as RefusedFor}
use Rattle.model.specs.ReplyText.{reply_text}
use Rattle.model.specs.declared.refusals.Refusal.{Refusal}
use Rattle.model.specs.declared.refusals.Refusal.TheVariants.{BadFrame}
use Rattle.snapshot.specs.Made.{is_refused}
pub use Rattle.sessions.specs.declared.events.Outcome.{Outcome}
pub use Rattle.sessions.specs.declared.events.Outcome.TheVariants.{Done, Unknown, Crowded, Idle, NoRoom, BadCount}
pub use Rattle.sessions.specs.declared.events.Outcome.TheVariants.{Memory}
pub use Rattle.sessions.specs.declared.events.Status.{Status}
pub use Rattle.sessions.specs.declared.events.Status.TheVariants.{Open, Ending, Refused}

-- what a session has at hand: the bytes that came in and were not read yet, those that are to be sent, and its status
pub record SessionState : Type 0 where
  pub inbox : Bytes
  pub pending : Bytes
  pub status : Status

-- a session and all that it was
pub record SessionStream : Type 0 where
  pub now : SessionState
  -- the bytes that came in
  pub received : Bytes
  -- the parts of each request that was served
  pub served : List (List Bytes)
  -- the machine's replies
  pub replies : List Response
  -- the bytes that were reported as sent
  pub sent : Bytes

-- the texts of the replies, joined
abbrev pub replies_text : SessionStream → Bytes
replies_text st = flat_map reply_text st.replies

-- the spellings of the requests that were served, joined
abbrev pub requests_text : SessionStream → Bytes
requests_text st = flat_map array_of_bulks st.served

pub record HubState : Type 0 where
  pub machine : State
  -- the sessions that are present, by rising number
  pub present : List (ℕ × SessionStream)
  -- those that have left, as they were then
  pub gone : List (ℕ × SessionStream)
  -- the greatest number that has joined
  pub latest : Option ℕ

-- a hub over a machine: nobody has joined
abbrev pub hub_over : State → HubState
hub_over m = record { machine = m; present = []; gone = []; latest = None }

-- what happens to a hub
pub data HubEvent : Type 0 where
  Joins : ℕ → HubEvent
  Receives : ℕ → Bytes → HubEvent
  Serves : ℕ → HubEvent
  Sends : ℕ → ℕ → HubEvent
  Leaves : ℕ → HubEvent

-- what stands at the head of an inbox: a request of these parts, spelled by so many bytes; the beginning of one;
-- neither
pub data Head : Type 0 where
  Whole : List Bytes → ℕ → Head
  More : Head
  Bad : Head

-- by the grammar of requests
abbrev pub IsHead : Bytes → Head → Type 0
IsHead bytes (Whole parts n) = (n ≤ length bytes) × Spells (take n bytes) parts
IsHead bytes More = IsProperBeginning bytes
IsHead bytes Bad = ((parts : List Bytes) (n : ℕ) → n ≤ length bytes → Spells (take n bytes) parts → ⊥)
    × (IsProperBeginning bytes → ⊥)

-- what is not the hub's to decide at an event: what the grammar finds at the head of the inbox, whether memory was
-- refused, and whether the device failed
pub record Choice : Type 0 where
  pub head : Head
  pub refused : Bool
  pub failed : Bool

abbrev pub is_open : Status → Bool
is_open Open = true
is_open other = false

-- so many bytes still fit the inbox
abbrev pub room : SessionState → ℕ
room n = inbox_max - length n.inbox

abbrev pub stream_of : HubState → ℕ → Option SessionStream
stream_of h s = lookup (is_at (nat_cmp s)) h.present

abbrev pub with_stream : HubState → ℕ → SessionStream → HubState
with_stream h s st = record h { present = set_value (is_at (nat_cmp s)) h.present st }

-- a session that has just joined
abbrev pub new_session : SessionState
new_session = record { inbox = []; pending = []; status = Open }

abbrev pub new_stream : SessionStream
new_stream = record { now = new_session; received = []; served = []; replies = []; sent = [] }

abbrev pub is_above : ℕ → Option ℕ → Bool
is_above s None = true
is_above s (Some t) = nat_lt t s

abbrev pub join : HubState → ℕ → Bool → HubState × Outcome
join h s refused =
    if not (is_above s h.latest) then (h, Unknown)
    else (if nat_le 128 (length h.present) then (h, Crowded)
    else (if refused then (h, Memory)
    else (record h { present = insert_entry nat_cmp h.present s new_stream; latest = Some s }, Done)))

abbrev pub receive : Option SessionStream → HubState → ℕ → Bytes → HubState × Outcome
receive None h s piece = (h, Unknown)
receive (Some st) h s piece =
    if not (is_open st.now.status) then (h, Idle)
    else (if nat_lt (room st.now) (length piece) then (h, NoRoom)
    else (
      with_stream h s (record
          st {
            now = record { inbox = st.now.inbox ++ piece; pending = st.now.pending; status = st.now.status };
            received = st.received ++ piece;
          }),
      Done,
    ))

-- what one Serve does: the machine and the session after it, what was served and replied, and the outcome
pub record Effect : Type 0 where
  pub machine : State
  pub now : SessionState
  pub served : List (List Bytes)
  pub replies : List Response
  pub outcome : Outcome

abbrev pub or_faulty : Result Operation Refusal → Operation
or_faulty (Ok q) = q
or_faulty (Err refusal) = Faulty refusal

-- what these parts ask
abbrev pub asks : List Bytes → Operation
asks parts = or_faulty (command_in parts)

-- a request that the store takes memory for
abbrev pub takes_memory : Operation → Bool
takes_memory Abort = false
takes_memory Ping = false
takes_memory (Faulty refusal) = false
takes_memory other = true

abbrev pub bad_frame : Response
bad_frame = RefusedFor BadFrame

-- the machine was asked, and its reply's text is to be sent
abbrev pub served_with : State × Response → SessionState → List Bytes → ℕ → Effect
served_with answer n parts used = record {
  machine = answer.0;
  now = record { inbox = drop used n.inbox; pending = reply_text answer.1; status = Open };
  served = parts ∷ [];
  replies = answer.1 ∷ [];
  outcome = Done;
}

-- a session that memory was refused for is closed, and is answered no more
abbrev pub out_of_memory : State → ℕ → Effect
out_of_memory m s = record {
  machine = leave m s;
  now = record { inbox = []; pending = []; status = Refused };
  served = [];
  replies = [];
  outcome = Memory;
}

-- the reply to what begins no request is the last
abbrev pub broken_frame : State → ℕ → Effect
broken_frame m s = record {
  machine = leave m s;
  now = record { inbox = []; pending = reply_text bad_frame; status = Ending };
  served = [];
  replies = bad_frame ∷ [];
  outcome = Done;
}

abbrev pub no_effect : State → SessionState → Effect
no_effect m n = record { machine = m; now = n; served = []; replies = []; outcome = Idle }

abbrev pub serve_head : Head → Choice → State → ℕ → SessionState → Effect
serve_head (Whole parts used) c m s n =
    if c.refused then out_of_memory m s else served_with (step m s (asks parts) c.failed) n parts used
serve_head More c m s n = no_effect m n
serve_head Bad c m s n = broken_frame m s

-- whether a request is looked for
abbrev pub may_serve : SessionState → Bool
may_serve n = if is_open n.status then length n.pending == 0 else false

abbrev pub serve_choice : Choice → State → ℕ → SessionState → Effect
serve_choice c m s n = if may_serve n then serve_head c.head c m s n else no_effect m n

abbrev pub with_effect : HubState → ℕ → SessionStream → Effect → HubState × Outcome
with_effect h s st e = (
  record (with_stream h s
      (record st { now = e.now; served = st.served ++ e.served; replies = st.replies ++ e.replies })) {
        machine =
            e.machine;
      },
  e.outcome,
)

abbrev pub serve_session : Option SessionStream → HubState → ℕ → Choice → HubState × Outcome
serve_session None h s c = (h, Unknown)
serve_session (Some st) h s c = with_effect h s st (serve_choice c h.machine s st.now)

abbrev pub send : Option SessionStream → HubState → ℕ → ℕ → HubState × Outcome
send None h s n = (h, Unknown)
send (Some st) h s n =
    if nat_le n (length st.now.pending)
    then (
      with_stream h s (record
          st {
            now = record { inbox = st.now.inbox; pending = drop n st.now.pending; status = st.now.status };
            sent = st.sent ++ take n st.now.pending;
          }),
      Done,
    )
    else (h, BadCount)

abbrev pub disconnect : Option SessionStream → HubState → ℕ → HubState × Outcome
disconnect None h s = (h, Unknown)
disconnect (Some st) h s = (
  record {
    machine = leave h.machine s;
    present = remove_entry (is_at (nat_cmp s)) h.present;
    gone = h.gone ++ (s, st) ∷ [];
    latest = h.latest;
  },
  Done,
)

-- one event
unfoldable pub hub_step : HubState → HubEvent → Choice → HubState × Outcome
hub_step h (Joins s) c = join h s c.refused
hub_step h (Receives s piece) c = receive (stream_of h s) h s piece
hub_step h (Serves s) c = serve_session (stream_of h s) h s c
hub_step h (Sends s n) c = send (stream_of h s) h s n
hub_step h (Leaves s) c = disconnect (stream_of h s) h s

-- the request at the head takes memory, and the machine's reply to it would be no refusal, the device's failure aside
abbrev pub MayWantMemory : State → ℕ → Head → Type 0
MayWantMemory m s (Whole parts used) =
    IsTrue (takes_memory (asks parts)) × IsFalse (is_refused (step m s (asks parts) false).1)
MayWantMemory m s other = ⊥

-- the grammar finds this head, and memory was refused only where it may be
abbrev pub IsChoiceFor : State → ℕ → Bytes → Choice → Type 0
IsChoiceFor m s inbox c = IsHead inbox c.head × (IsTrue c.refused → MayWantMemory m s c.head)

abbrev pub IsServePossible : State → ℕ → Option SessionStream → Choice → Type 0
IsServePossible m s None c = ⊤
IsServePossible m s (Some st) c = IsTrue (may_serve st.now) → IsChoiceFor m s st.now.inbox c

-- what may be chosen at an event
abbrev pub IsPossible : HubState → HubEvent → Choice → Type 0
IsPossible h (Serves s) c = IsServePossible h.machine s (stream_of h s) c
IsPossible h other c = ⊤

-- events one after another, each with its choice
abbrev pub run : HubState → List (HubEvent × Choice) → HubState
run h [] = h
run h (e ∷ es) = run (hub_step h e.0 e.1).0 es

abbrev pub outcomes : HubState → List (HubEvent × Choice) → List Outcome
outcomes h [] = []
outcomes h (e ∷ es) = (hub_step h e.0 e.1).1 ∷ outcomes (hub_step h e.0 e.1).0 es

abbrev pub ArePossible : HubState → List (HubEvent × Choice) → Type 0
ArePossible h [] = ⊤
ArePossible h (e ∷ es) = IsPossible h e.0 e.1 × ArePossible (hub_step h e.0 e.1).0 es

-- a hub state to which events lead from a machine that was reached, with no transaction open
pub data IsReachedHub : HubState → Type 0 where
  Begun : (m : State) → IsReached m → m.running ≡ [] → IsReachedHub (hub_over m)
  Continued : (h : HubState) (e : HubEvent) (c : Choice) → IsPossible h e c → IsReachedHub h
      → IsReachedHub (hub_step h e c).0
