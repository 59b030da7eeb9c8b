-- The words that the worked runs are written with.
use Rattle.std.proofs.Common.{◌≡◌, ℕ, false, List, [], ◌∷◌, Some, None, map, codes}
use Prim.Native.String.{String}
use Rattle.model.specs.History.{Record}
use Rattle.model.specs.Machine.{State, opened, step}
use Rattle.model.specs.Operations.{Operation, Response}
use Rattle.model.specs.Operations.Operation.{Begin, Get, Set, Del, Range, Commit, Abort, Ping, Faulty}
use Rattle.model.specs.Operations.Response.{Value}
use Rattle.model.specs.SerialOrder.{serial_order}
use Rattle.model.specs.declared.refusals.Refusal.{Refusal}

-- a request of a session
abbrev pub Request : Type 0
Request = ℕ × Operation

abbrev pub begin : ℕ → Request
begin s = (s, Begin)

abbrev pub get : ℕ → String → Request
get s k = (s, Get (codes k))

abbrev pub set : ℕ → String → String → Request
set s k v = (s, Set (codes k) (codes v))

abbrev pub del : ℕ → String → Request
del s k = (s, Del (codes k))

-- the pairs from lo on that are below hi, at most so many
abbrev pub range : ℕ → String → String → ℕ → Request
range s lo hi limit = (s, Range (codes lo) (Some (codes hi)) limit)

-- the pairs from lo on
abbrev pub range_from : ℕ → String → ℕ → Request
range_from s lo limit = (s, Range (codes lo) None limit)

abbrev pub commit : ℕ → Request
commit s = (s, Commit)

abbrev pub abort : ℕ → Request
abort s = (s, Abort)

abbrev pub ping : ℕ → Request
ping s = (s, Ping)

abbrev pub faulty : ℕ → Refusal → Request
faulty s refusal = (s, Faulty refusal)

-- the response with this value
abbrev pub value : String → Response
value v = Value (Some (codes v))

abbrev pub pair : String → String → List ℕ × List ℕ
pair k v = (codes k, codes v)

-- the machine as it is opened
abbrev pub start : State
start = opened [] 2 4096

-- the responses to the requests, where the device fails in none
abbrev pub run : State → List Request → List Response
run st [] = []
run st (q ∷ qs) = (step st q.0 q.1 false).1 ∷ run (step st q.0 q.1 false).0 qs

-- the state after them
abbrev pub after : State → List Request → State
after st [] = st
after st (q ∷ qs) = after (step st q.0 q.1 false).0 qs

-- a request, and the response that it gets
abbrev pub Exchange : Type 0
Exchange = Request × Response

infix 90 ◌⇒◌
abbrev pub ◌⇒◌ : Request → Response → Exchange
q ⇒ r = (q, r)

-- the opened machine answers the requests so
abbrev pub Plays : List Exchange → Type 0
Plays es = run start (map (λ e. e.0) es) ≡ map (λ e. e.1) es

abbrev pub history_after : List Exchange → List Record
history_after es = (after start (map (λ e. e.0) es)).history

-- and these are the commit numbers by the serial order
abbrev pub PlaysInOrder : List Exchange → List ℕ → Type 0
PlaysInOrder es order = Plays es × (map (λ r. r.commit) (serial_order (history_after es)) ≡ order)
