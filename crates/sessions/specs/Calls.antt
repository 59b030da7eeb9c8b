-- What the parts of a Serve do to an engine and an output.
use Rattle.std.specs.Prelude.{◌≡◌, ◌≤◌, ℕ, Bool, List, [], drop, vec_len, vec_capacity, Option, Some, None, Result}
use Rattle.std.specs.Prelude.{Ok, Err, true, false, IsTrue}
use Rattle.model.specs.KeyBytes.{key_bytes, end_bytes}
use Rattle.model.specs.Leading.{LeadsBy}
use Rattle.model.specs.Machine.{State, step, leave}
use Rattle.model.specs.Map.{Bytes}
use Rattle.model.specs.Operations.{Operation, Response, Done}
use Rattle.model.specs.Operations.Operation.{Range}
use Rattle.model.specs.ReplyText.{reply_text}
use Rattle.model.specs.declared.ranges.RangeRef.{RangeRef}
use Rattle.model.specs.declared.refusals.Memory.{Memory}
use Rattle.sector.specs.declared.device.Sectors.{Ghosts}
use Rattle.engine.specs.Meaning.{StandsFor, IsNotRefused, response_to_read}
pub use Rattle.engine.specs.Meaning.{has_failed}
use Rattle.engine.specs.declared.engine.Engine.{Engine}
use Rattle.engine.specs.declared.faults.ReadFault.{ReadFault}
use Rattle.sessions.specs.SessionStreams.{Memory as OfMemory, Outcome, SessionState, Head, Whole, More, Bad, IsHead}
use Rattle.sessions.specs.SessionStreams.{Choice, IsChoiceFor, asks, takes_memory, bad_frame, serve_choice, may_serve}
use Rattle.sessions.specs.declared.buffer.Buffer.{Buffer}
use Rattle.sessions.specs.declared.requests.Served.{Served}
use Rattle.sessions.specs.declared.requests.Served.TheVariants.{Answered, Incomplete, Broken, Refused}

-- the bytes that were not consumed yet
abbrev pub rest : Buffer → Bytes
rest b = drop b.start b.bytes.items

-- what was consumed is a part of its bytes, which are so many at most, and it has room for as many
pub record IsBufferWithin (max : ℕ) (buffer : Buffer) : Type 0 where
  pub start : buffer.start ≤ vec_len buffer.bytes
  pub len : vec_len buffer.bytes ≤ max
  pub reserved : max ≤ vec_capacity buffer.bytes

-- the most bytes of room that an emptied output keeps
abbrev pub output_kept : ℕ
output_kept = 65536

-- this response was written to an empty output, or memory was refused and nothing was
abbrev pub Writes : Option Response → Bytes → Result (Unit {0}) Memory → Type 0
Writes (Some response) after (Ok done) = after ≡ reply_text response
Writes (Some response) after (Err refused) = ⊥
Writes None after (Ok done) = ⊥
Writes None after (Err refused) = after ≡ []

-- the response that a refused read has, and none where memory was refused
abbrev pub refusal_to_read : ReadFault → Option Response
refusal_to_read fault = response_to_read (λ (u : Unit {0}). Done) (Err fault)

-- from every state that the old engine stood for to one that is the same once the session has left
abbrev pub LeavesSame : {D : Type 0} {g : Ghosts D} → Engine D g → Engine D g → ℕ → Type 0
LeavesSame old new s = LeadsBy StandsFor old new (λ m left. leave left s ≡ leave m s)

-- the request was executed and its response written to an empty output; where memory was refused, though the request
-- isn't, nothing was written, and the transaction is still to be aborted
abbrev pub Executes : {D : Type 0} {g : Ghosts D} → Engine D g → Engine D g → ℕ → Operation → Bool → Bytes
    → Result (Unit {0}) Memory → Type 0
Executes old new s q failed after (Ok done) =
    (m : State) → StandsFor old m → StandsFor new (step m s q failed).0 × (after ≡ reply_text (step m s q failed).1)
Executes old new s q failed after (Err refused) =
    IsTrue (takes_memory q) × LeavesSame old new s × (after ≡ []) × IsNotRefused old s q

-- the session's transaction is aborted, if it has one
abbrev pub Aborts : {D : Type 0} {g : Ghosts D} → Engine D g → Engine D g → ℕ → Type 0
Aborts old new s = (m : State) → StandsFor old m → StandsFor new (leave m s)

-- what was found at the head of an inbox and answered into an empty output
abbrev pub ServesHead : {D : Type 0} {g : Ghosts D} → Engine D g → Engine D g → ℕ → Bool → Bytes → Bytes → Served
    → Type 0
ServesHead old new s failed inbox after (Answered used) =
    (parts : List Bytes) × IsHead inbox (Whole parts used)
    × ((m : State) → StandsFor old m
    → StandsFor new (step m s (asks parts) failed).0 × (after ≡ reply_text (step m s (asks parts) failed).1))
ServesHead old new s failed inbox after Incomplete = IsHead inbox More × (new ≡ old) × (after ≡ [])
ServesHead old new s failed inbox after Broken = IsHead inbox Bad × Aborts old new s × (after ≡ reply_text bad_frame)
ServesHead old new s failed inbox after Refused =
    (parts : List Bytes) × (used : ℕ) × IsHead inbox (Whole parts used) × IsTrue (takes_memory (asks parts))
    × Aborts old new s × (after ≡ []) × IsNotRefused old s (asks parts)

abbrev pub is_memory : Outcome → Bool
is_memory OfMemory = true
is_memory other = false

-- the choice may be made, and this is the effect of a Serve by it
pub record HasEffect {D : Type 0} {g : Ghosts D} (old new : Engine D g) (s : ℕ) (c : Choice) (m : State)
    (before after : SessionState) (outcome : Outcome) : Type 0 where
  pub possible : IsTrue (may_serve before) → IsChoiceFor m s before.inbox c
  pub engine : StandsFor new (serve_choice c m s before).machine
  pub session : after ≡ (serve_choice c m s before).now
  pub outcome_is : outcome ≡ (serve_choice c m s before).outcome

-- what is chosen where memory was refused as the outcome says
abbrev pub chosen : Head → Outcome → Bool → Choice
chosen head outcome failed = record { head = head; refused = is_memory outcome; failed = failed }

-- one Serve of a session: what the grammar finds is one head for all states
abbrev pub ServesSession : {D : Type 0} {g : Ghosts D} → Engine D g → Engine D g → ℕ → SessionState → SessionState
    → Outcome → Type 0
ServesSession old new s before after outcome =
    (head : Head) × ((m : State) → StandsFor old m
    → HasEffect old new s (chosen head outcome (has_failed old new)) m before after outcome)

-- what a RANGE with this limit asks
abbrev pub range_of : RangeRef → ℕ → Operation
range_of range limit = Range (key_bytes range.lo) (end_bytes range.hi) limit
