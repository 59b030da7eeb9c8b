-- What a turn makes of the connections of those that left, and of those that linger.
use Rattle.std.specs.Prelude.{◌≡◌, ◌≢◌, ℕ, ◌+◌, ◌≤◌, Bool, true, false, List, length, Option, Some, None}
use Rattle.stream_driver.specs.Entries.{is_over}
use Rattle.stream_driver.specs.declared.buffered.BufferedStream.{BufferedStream}
use Rattle.stream_driver.specs.declared.entries.Entry.{Entry}
use Rattle.event_loop.specs.Lingerings.{AreTurned, LingersOrCloses, Lingerers}
use Rattle.event_loop.specs.Sockets.{SocketsReport, traffic_of}
use Rattle.event_loop.specs.Tables.{EndsTurn, slot_at}
use Rattle.event_loop.specs.declared.socket.Socket.{Socket}

abbrev pub LeavesIf : Bool → Socket → Lingerers → Lingerers → Type 0
LeavesIf false socket old new = new ≡ old
LeavesIf true socket old new = LingersOrCloses socket old new

module _ (moment : ℕ) where
  -- the connection of an entry that was taken out lingers or is closed
  abbrev pub LeavesAs : (slot new : Option (Entry (BufferedStream Socket)))
      → EndsTurn SocketsReport traffic_of moment slot new → Lingerers → Lingerers → Type 0
  LeavesAs None new ended old later = later ≡ old
  LeavesAs (Some entry) new ended old later = LeavesIf (is_over ended.0) ended.0.stream.inner old later

  -- the drive of the entry at a key has ended
  pub record EndsAt (key : ℕ) (slots : List (Option (Entry (BufferedStream Socket)))) (old : Lingerers)
      (new : List (Option (Entry (BufferedStream Socket)))) (later : Lingerers) : Type 0 where
    pub ended : EndsTurn SocketsReport traffic_of moment (slot_at slots key) (slot_at new key)
    pub others : (other : ℕ) → other ≢ key → slot_at new other ≡ slot_at slots other
    pub leaves : LeavesAs (slot_at slots key) (slot_at new key) ended old later

  -- so it is of each key below this one, one after another
  pub data EndEach (slots : List (Option (Entry (BufferedStream Socket)))) (old : Lingerers) : ℕ
      → List (Option (Entry (BufferedStream Socket))) → Lingerers → Type 0 where
    NoneEnded : EndEach slots old 0 slots old
    OneMore : (key : ℕ) (between new : List (Option (Entry (BufferedStream Socket)))) (mid later : Lingerers)
        → EndEach slots old key between mid
        → EndsAt key between mid new later → EndEach slots old (key + 1) new later

  -- and so of each entry of the table
  pub record EndAll (slots : List (Option (Entry (BufferedStream Socket)))) (old : Lingerers)
      (new : List (Option (Entry (BufferedStream Socket)))) (later : Lingerers) : Type 0 where
    pub keys : ℕ
    pub all : length slots ≤ keys
    pub each : EndEach slots old keys new later

  -- first the drives end, and then those that linger are turned
  pub record LingerOn (is_reported : Bool) (slots : List (Option (Entry (BufferedStream Socket)))) (old : Lingerers)
      (new : List (Option (Entry (BufferedStream Socket)))) (later : Lingerers) : Type 0 where
    pub begun : Lingerers
    pub left : EndAll slots old new begun
    pub turned : AreTurned moment is_reported begun later
