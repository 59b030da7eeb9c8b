-- What a stream has moved and answered so far.
use Rattle.std.specs.List.{AllByRecursion}
use Rattle.std.specs.Prelude.{◌≡◌, ℕ, Bool, true, ◌+◌, ◌<◌, ◌≤◌, ◌^◌, ◌-◌, min, max, List, [], ◌++◌, Option}
use Rattle.std.specs.Prelude.{Some, None}
use Rattle.stream_driver.specs.Types.{Call, Read, Write, ReadAnswer, Moved, Blocked, Failed, Ended, WriteAnswer}
use Rattle.stream_driver.specs.Types.{Wrote, WriteBlocked, WriteFailed, ShareEnd, Appended, Looked}

-- all bytes that had left for the peer by a moment of the device
pub record Departure : Type 0 where
  pub bytes : List ℕ
  pub moment : ℕ

-- The bytes that were received and those that were sent, how often each call gave each answer but `Moved`, and the last
-- call with its answer. And what had left for the peer by each moment of the device at which some bytes left: a stream
-- may buffer for a while what was sent. And the number of the connection, which tells it from others.
pub record Traffic : Type 0 where
  pub received : List ℕ
  pub sent : List ℕ
  pub departed : List Departure
  pub read_blocked : ℕ
  pub read_failed : ℕ
  pub read_ended : ℕ
  pub write_blocked : ℕ
  pub write_failed : ℕ
  pub last : Option Call
  pub connection : ℕ

-- of a stream that was never called, under the number 0
abbrev pub untouched : Traffic
untouched = record {
  received = [];
  sent = [];
  departed = [];
  read_blocked = 0;
  read_failed = 0;
  read_ended = 0;
  write_blocked = 0;
  write_failed = 0;
  last = None;
  connection = 0;
}

-- a u64 count after one more: the highest stays
abbrev pub one_more : ℕ → ℕ
one_more count = max count (min (count + 1) (2 ^ 64 - 1))

-- a read or a write that moves bytes moves one at least, and no more than there are
abbrev pub ReadsWithin : ReadAnswer → ℕ → Type 0
ReadsWithin (Moved n) len = (0 < n) × (n ≤ len)
ReadsWithin _ len = Unit {0}

abbrev pub WritesWithin : WriteAnswer → ℕ → Type 0
WritesWithin (Wrote n) len = (0 < n) × (n ≤ len)
WritesWithin _ len = Unit {0}

abbrev pub bytes_read : ReadAnswer → ℕ
bytes_read (Moved n) = n
bytes_read _ = 0

abbrev pub bytes_written : WriteAnswer → ℕ
bytes_written (Wrote n) = n
bytes_written _ = 0

-- a stream's share of a turn: how many bytes are left of it, whether it was ended with a reply, and whether that was
-- the reply to a request that appended a record
pub record Share : Type 0 where
  pub left : ℕ
  pub ended : Bool
  pub appended : Bool

-- so many bytes of it were taken
pub record TakesOf (old : Share) (bytes : ℕ) (new : Share) : Type 0 where
  pub left : new.left + bytes ≡ old.left
  pub stays : new.ended ≡ old.ended
  pub appended : new.appended ≡ old.appended

-- whether a record was appended, once the share was ended for this reason
abbrev pub appended_by : ShareEnd → Share → Bool
appended_by Appended share = true
appended_by Looked share = share.appended

-- it was ended for this reason, and no more than so many bytes are left of it
pub record EndsFor (cause : ShareEnd) (most : ℕ) (old new : Share) : Type 0 where
  pub left : new.left ≡ min old.left most
  pub ended : new.ended ≡ true
  pub appended : new.appended ≡ appended_by cause old

-- what the counts are after this answer; all else is the same
abbrev pub counts_after_read : ReadAnswer → Traffic → Traffic
counts_after_read (Moved n) t = t
counts_after_read Blocked t = record t { read_blocked = one_more t.read_blocked }
counts_after_read Failed t = record t { read_failed = one_more t.read_failed }
counts_after_read Ended t = record t { read_ended = one_more t.read_ended }

abbrev pub counts_after_write : WriteAnswer → Traffic → Traffic
counts_after_write (Wrote n) t = t
counts_after_write WriteBlocked t = record t { write_blocked = one_more t.write_blocked }
counts_after_write WriteFailed t = record t { write_failed = one_more t.write_failed }

-- of the same connection, the same counts
abbrev pub SameCounts : Traffic → Traffic → Type 0
SameCounts a b =
    (a.read_blocked ≡ b.read_blocked) × (a.read_failed ≡ b.read_failed) × (a.read_ended ≡ b.read_ended)
    × (a.write_blocked ≡ b.write_blocked) × (a.write_failed ≡ b.write_failed)
    × (a.connection ≡ b.connection)

-- of the connection under this number: nothing has moved, and no call was made
pub record IsUncalled (reports : Type 0) (connection : ℕ) (t : Traffic) : Type 0 where
  pub received : reports → t.received ≡ []
  pub sent : reports → t.sent ≡ []
  pub departed : reports → t.departed ≡ []
  pub counts : SameCounts t (record untouched { connection = connection })
  pub last : t.last ≡ None

abbrev pub after_call : Call → Traffic → Traffic
after_call (Read answer) = counts_after_read answer
after_call (Write answer) = counts_after_write answer

-- each call between the two moved bytes, if there was one; and the last call was this one, and each before it moved
-- bytes
abbrev pub AllMoved : Traffic → Traffic → Type 0
AllMoved before after = SameCounts after before

abbrev pub CountsLast : Call → Traffic → Traffic → Type 0
CountsLast call before after = SameCounts after (after_call call before) × (after.last ≡ Some call)

-- what all begins with
pub record IsBeginning (bytes all : List ℕ) : Type 0 where
  pub rest : List ℕ
  pub all_is : all ≡ bytes ++ rest

-- what left in a call left at this moment, and had been sent by its end
pub record DepartAt (moment : ℕ) (before after : Traffic) : Type 0 where
  pub departures : List Departure
  pub departed_are : after.departed ≡ before.departed ++ departures
  pub each : AllByRecursion (λ d. (d.moment ≡ moment) × IsBeginning d.bytes after.sent) departures

-- these bytes were received, and none was sent; what left meanwhile, left at this moment
pub record ReceivesBytes (moment : ℕ) (before : Traffic) (bytes : List ℕ) (after : Traffic) : Type 0 where
  pub received : after.received ≡ before.received ++ bytes
  pub sent : after.sent ≡ before.sent
  pub departed : DepartAt moment before after

-- these bytes were sent, and none was received
pub record SendsBytes (moment : ℕ) (before : Traffic) (bytes : List ℕ) (after : Traffic) : Type 0 where
  pub received : after.received ≡ before.received
  pub sent : after.sent ≡ before.sent ++ bytes
  pub departed : DepartAt moment before after
