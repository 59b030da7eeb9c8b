-- What a session asks and what it is answered, as plain values. The commands are this project's own.
use Rattle.std.specs.Prelude.{ℕ, ◌≤◌, List, Option, option_copied}
use Rattle.model.specs.Key.{IsValue}
use Rattle.model.specs.KeyBytes.{key_bytes, end_bytes}
use Rattle.model.specs.Map.{Bytes}
use Rattle.model.specs.declared.commands.Command.{Command}
use Rattle.model.specs.declared.commands.Reply.{Reply}
use Rattle.model.specs.declared.refusals.Refusal.{Refusal}

-- a request: a command, or one that is refused for its form
pub data Operation : Type 0 where
  Begin : Operation
  Get : Bytes → Operation
  Set : Bytes → Bytes → Operation
  Del : Bytes → Operation
  -- the lower end, the upper end if there is one, and the limit
  Range : Bytes → Option Bytes → ℕ → Operation
  Commit : Operation
  Abort : Operation
  Ping : Operation
  Faulty : Refusal → Operation

-- the reply to a request
pub data Response : Type 0 where
  Done : Response
  Pong : Response
  Number : ℕ → Response
  Value : Option Bytes → Response
  Pairs : List (Bytes × Bytes) → Response
  Refused : Refusal → Response

-- the request that a command means
abbrev pub operation_of : Command → Operation
operation_of Command.Begin = Begin
operation_of (Command.Get k) = Get (key_bytes k)
operation_of (Command.Set k v) = Set (key_bytes k) v.now
operation_of (Command.Del k) = Del (key_bytes k)
operation_of (Command.Range r limit) = Range (key_bytes r.lo) (end_bytes r.hi) limit
operation_of Command.Commit = Commit
operation_of Command.Abort = Abort
operation_of Command.Ping = Ping

-- a command's value and limit are within their bounds
abbrev pub IsFit : Command → Type 0
IsFit (Command.Set k v) = IsValue v.now
IsFit (Command.Range r limit) = (1 ≤ limit) × (limit ≤ 128)
IsFit other = Unit {0}

-- the response that a reply means
abbrev pub response_of : Reply → Response
response_of Reply.Done = Done
response_of Reply.Pong = Pong
response_of (Reply.Number n) = Number n
response_of (Reply.Value v) = Value (option_copied v)
response_of (Reply.Refused r) = Refused r.now
