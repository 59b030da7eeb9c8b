-- The store as a machine that takes one request of one session at a time. It is this project's own.
use Rattle.std.specs.FinMap.Entries.{find, put, where_key}
use Rattle.std.specs.Ordering.{nat_cmp}
use Rattle.std.specs.Prelude.{◌≡◌, ℕ, suc, ◌+◌, ◌-◌, ◌/◌, ◌^◌, Bool, true, false, List, [], ◌∷◌, ◌++◌, Option, Some}
use Rattle.std.specs.Prelude.{None, length, not, nat_lt, nat_le, ◌==◌, if◌then◌else◌}
use Rattle.model.specs.History.{Record, record_of, map_at}
use Rattle.model.specs.Map.{Bytes, KeyMap, KeyWrite, IsMap}
use Rattle.model.specs.Operations.{Operation, Response}
use Rattle.model.specs.Operations.Operation.{Begin, Get, Set, Del, Range, Commit, Abort, Ping, Faulty}
use Rattle.model.specs.Operations.Response.{Done, Pong, Number, Refused}
use Rattle.model.specs.PrivateCopy.{answer}
use Rattle.model.specs.Verdict.{verdict}
use Rattle.model.specs.declared.refusals.Refusal.{Refusal}
use Rattle.model.specs.declared.refusals.Refusal.TheVariants.{NotOpen, FullTransactions, FullLog, StoreFault}
use Rattle.model.specs.declared.refusals.Refusal.TheVariants.{StoreStopped, FullNumbers}

-- an open transaction: its begin number, and its own requests with the replies to them
pub record Running : Type 0 where
  pub begin : ℕ
  pub requests : List Operation
  pub replies : List Response

-- the state of the store
pub record State : Type 0 where
  -- the map that was opened, and the transactions committed since
  pub base : KeyMap
  pub history : List Record
  -- the sessions with an open transaction, by rising number
  pub running : List (ℕ × Running)
  -- sectors of the log up to and with the last closed gate, and sectors of the device
  pub used : ℕ
  pub count : ℕ
  pub stopped : Bool

-- the store as it is opened over a map
abbrev pub opened : KeyMap → ℕ → ℕ → State
opened m used count = record { base = m; history = []; running = []; used = used; count = count; stopped = false }

-- the last commit number
abbrev pub last : State → ℕ
last st = length st.history

-- the map committed at the transaction's begin
abbrev pub snapshot : State → Running → KeyMap
snapshot st t = map_at st.base st.history t.begin

abbrev pub running_of : State → ℕ → Option Running
running_of st s = find nat_cmp s st.running

-- the state in which the session runs t
abbrev pub with_running : State → ℕ → Running → State
with_running st s t = record st { running = put nat_cmp s t st.running }

-- the state without the session's transaction, if it has one
abbrev pub leave : State → ℕ → State
leave st s = record st { running = where_key nat_cmp (λ x. not (x == s)) st.running }

-- the bytes that a write takes in a record of the log, and those of all writes
abbrev pub write_size : Bytes → Option Bytes → ℕ
write_size k None = 2 + length k + 1
write_size k (Some v) = 2 + length k + 1 + 4 + length v

abbrev pub payload_size : List KeyWrite → ℕ
payload_size [] = 4
payload_size (w ∷ ws) = write_size w.0 w.1 + payload_size ws

-- the sectors of 512 bytes that hold the payload behind its 44 bytes of length, index and digest
abbrev pub body_sectors : List KeyWrite → ℕ
body_sectors ws = (44 + payload_size ws + 511) / 512

-- what joins the history where the session commits
abbrev pub record_to_commit : State → Running → Record
record_to_commit st t = record_of t.begin (suc (last st)) (snapshot st t) t.requests t.replies

-- a refused commit ends the transaction
abbrev pub refuse : State → ℕ → Refusal → State × Response
refuse st s refusal = (leave st s, Refused refusal)

-- the record joins the history, and its sectors the log
abbrev pub join_history : State → ℕ → Record → ℕ → State × Response
join_history st s r sectors =
    (record (leave st s) { history = st.history ++ r ∷ []; used = st.used + sectors }, Number r.commit)

-- a commit without conflict, where `failed` says that the device failed in the call. Without writes nothing is stored
abbrev pub store : State → ℕ → Record → List KeyWrite → Bool → State × Response
store st s r [] failed = join_history st s r 0
store st s r (w ∷ ws) failed =
    if nat_le st.count (st.used + body_sectors (w ∷ ws)) then refuse st s FullLog
    else (if failed then (record (leave st s) { stopped = true }, Refused StoreFault)
    else join_history st s r (body_sectors (w ∷ ws) + 1))

abbrev pub store_unless : Option Refusal → State → ℕ → Record → Bool → State × Response
store_unless (Some conflict) st s r failed = refuse st s conflict
store_unless None st s r failed = store st s r r.writes failed

-- a request to commit the session's transaction t
abbrev pub commit : State → ℕ → Running → Bool → State × Response
commit st s t failed =
    if st.stopped then refuse st s StoreStopped
    else (if last st == 2 ^ 63 - 1 then refuse st s FullNumbers
    else store_unless (verdict st.history (record_to_commit st t)) st s (record_to_commit st t) failed)

-- a request of a session with no open transaction
abbrev pub step_outside : State → ℕ → Operation → State × Response
step_outside st s Begin =
    if st.stopped then (st, Refused StoreStopped)
    else (if nat_lt (length st.running) 64 then
    (with_running st s (record { begin = last st; requests = []; replies = [] }), Done)
    else (st, Refused FullTransactions))
step_outside st s Ping = (st, Pong)
step_outside st s (Faulty refusal) = (st, Refused refusal)
step_outside st s (Get k) = (st, Refused NotOpen)
step_outside st s (Set k v) = (st, Refused NotOpen)
step_outside st s (Del k) = (st, Refused NotOpen)
step_outside st s (Range lo hi limit) = (st, Refused NotOpen)
step_outside st s Commit = (st, Refused NotOpen)
step_outside st s Abort = (st, Refused NotOpen)

-- an own request of the transaction t
abbrev pub own_step : State → ℕ → Running → Operation → State × Response
own_step st s t q = (
  with_running st s
      (record { begin = t.begin; requests = t.requests ++ q ∷ []; replies = t.replies ++ reply ∷ [] }),
  reply,
)
  where
    reply : Response
    reply = answer (snapshot st t) t.requests q

-- a request of a session with the open transaction t
abbrev pub step_inside : State → ℕ → Running → Operation → Bool → State × Response
step_inside st s t Commit failed = commit st s t failed
step_inside st s t Abort failed = (leave st s, Done)
step_inside st s t q failed = own_step st s t q

abbrev pub step_of : Option Running → State → ℕ → Operation → Bool → State × Response
step_of None st s q failed = step_outside st s q
step_of (Some t) st s q failed = step_inside st s t q failed

-- the next state and the response to one request of the session, where `failed` says that the device failed in the call
unfoldable pub step : State → ℕ → Operation → Bool → State × Response
step st s q failed = step_of (running_of st s) st s q failed

-- what the machine is given: a request of a session, with whether the device failed in the call, or the end of a
-- session
pub data Input : Type 0 where
  Asks : ℕ → Operation → Bool → Input
  Leaves : ℕ → Input

abbrev pub next : State → Input → State
next st (Asks s q failed) = (step st s q failed).0
next st (Leaves s) = leave st s

-- the state after the inputs, one after another
abbrev pub state_after : State → List Input → State
state_after st [] = st
state_after st (i ∷ is) = state_after (next st i) is

-- a state that the machine reaches from an opened map
pub record IsReached (st : State) : Type 0 where
  pub contents : KeyMap
  pub sectors_used : ℕ
  pub sectors : ℕ
  pub inputs : List Input
  pub is_map : IsMap contents
  pub is : st ≡ state_after (opened contents sectors_used sectors) inputs
