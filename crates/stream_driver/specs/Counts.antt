-- The counts of a stream's answers as its traffic.
use Rattle.std.specs.Prelude.{◌≡◌, ℕ, List, []}
use Rattle.stream_driver.specs.Traffic.{Departure, CountsLast, Traffic}
use Rattle.stream_driver.specs.Types.{Call, CallCounts}

-- counts and the last call, with the bytes that went each way, what has left, and the number of the connection
abbrev pub counted_with : CallCounts → List ℕ → List ℕ → List Departure → ℕ → Traffic
counted_with c received sent departed connection = record {
  received = received;
  sent = sent;
  departed = departed;
  read_blocked = c.read_blocked;
  read_failed = c.read_failed;
  read_ended = c.read_ended;
  write_blocked = c.write_blocked;
  write_failed = c.write_failed;
  last = c.last;
  connection = connection;
}

abbrev pub counted : CallCounts → Traffic
counted c = counted_with c [] [] [] 0

-- the last call was this one, and it alone was counted, whatever has moved over the connection
abbrev pub Notes : Call → CallCounts → CallCounts → Type 0
Notes call old new = (received sent later_received later_sent : List ℕ) (departed later_departed : List Departure)
    (connection later : ℕ) → later ≡ connection
    → CountsLast call (counted_with old received sent departed connection)
    (counted_with new later_received later_sent later_departed later)
