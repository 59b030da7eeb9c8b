-- The premise that sockets report the bytes that they move, over the open facts of a connection and the calls that were
-- really made of it.
use Rattle.std.specs.Prelude.{◌≡◌, ℕ, List, [], ◌∷◌, ◌++◌, map, true, false}
use Rattle.std.specs.declared.io.Error.{Error}
use Rattle.mio.specs.declared.interest.Interest.{Interest}
use Rattle.mio.specs.declared.token.Token.{Token}
use Rattle.socket_calls.specs.HappenedCalls.{AsksWhetherThere, EndedWriting, SendsAtOnce, SocketAnswered}
use Rattle.socket_calls.specs.HappenedCalls.{WasReceived, WasRegistered, WasReregistered, WasSent}
use Rattle.socket_calls.specs.OpenFacts.{IsConnectionOf, departed, bytes_received, bytes_sent, socket_after_call}
use Rattle.socket_calls.specs.declared.counted.AcceptedSocket.{AcceptedSocket}
use Rattle.socket_calls.specs.declared.counted.CountedSocket.{CountedSocket}
use Rattle.stream_driver.specs.Buffers.{IsNew}
use Rattle.stream_driver.specs.Counts.{counted_with}
use Rattle.stream_driver.specs.Traffic.{Departure, Traffic, IsUncalled}
use Rattle.stream_driver.specs.declared.buffered.BufferedStream.{BufferedStream}
use Rattle.event_loop.specs.declared.socket.Socket.{Socket}
use Rattle.event_loop.specs.declared.socket.TheConstants.{PROBES, SECONDS_BETWEEN_PROBES, SILENT_SECONDS}

-- Nothing has moved over a connection of which no call was made, and each call that the run really made of one moved
-- the bytes that it read or wrote, and no others; those of a write left at the moment of the device that it was shown.
-- It is neither claimed nor denied: which bytes moved, and which calls were made, is open.
pub record SocketsReport : Type 0 where
  pub begins : (s : CountedSocket) → s.calls ≡ 0 → (bytes_received s ≡ []) × (departed s ≡ [])
  pub received : (s : CountedSocket) (bytes : List ℕ) → WasReceived s bytes
      → (bytes_received (socket_after_call s) ≡ bytes_received s ++ bytes)
      × (departed (socket_after_call s) ≡ departed s)
  pub sent : (s : CountedSocket) (bytes : List ℕ) (moment : ℕ) → WasSent s bytes moment
      → (bytes_received (socket_after_call s) ≡ bytes_received s)
      × (departed (socket_after_call s) ≡ departed s ++ (bytes_sent s ++ bytes, moment) ∷ [])

abbrev pub departure_of : List ℕ × ℕ → Departure
departure_of d = record { bytes = d.0; moment = d.1 }

-- the session that a connection was made for, whose number it has
abbrev pub socket_session : Socket → ℕ
socket_session s = s.socket.connection

-- the bytes of a socket's connection, what left at which moment, its counts, its last call, and its number
abbrev pub traffic_of : Socket → Traffic
traffic_of s = counted_with s.counts (bytes_received s.socket) (bytes_sent s.socket)
    (map departure_of (departed s.socket))
    s.socket.connection

-- the last of its reads that moved bytes gave fewer than it asked for
abbrev pub CameShort : Socket → Type 0
CameShort s = s.came_short ≡ true

-- It sends at once what is written. A peer that is silent for two minutes is probed, and again each half minute, and
-- where it answers none of four probes the connection ends.
pub record HasItsOptions (s : CountedSocket) : Type 0 where
  pub sends_at_once : SendsAtOnce s
  pub asks : AsksWhetherThere s SILENT_SECONDS SECONDS_BETWEEN_PROBES PROBES

-- what comes in, urgent bytes among it, and room for what goes
abbrev pub all_interests : Interest
all_interests = record { priority = true; writable = true; readable = true }

-- The poll reports it under the key of its place in the table.
abbrev pub HasItsPlace : ℕ → CountedSocket → Type 0
HasItsPlace key s = WasRegistered s (record { 0 = key }) all_interests

-- It has its options, and the poll reports it under this token.
pub record IsSetUp (token : Token) (s : CountedSocket) : Type 0 where
  pub options : HasItsOptions s
  pub place : WasRegistered s token all_interests

-- the stream at this place of the table of this connection, for this session: no call was made of it, it buffers
-- nothing, and has its options
abbrev pub IsNewSocket : AcceptedSocket → (key session : ℕ) → BufferedStream Socket → Type 0
IsNewSocket accepted key session b =
    (inner : Socket) × IsUncalled SocketsReport session (traffic_of inner) × IsNew inner b × HasItsOptions inner.socket
    × HasItsPlace key inner.socket × IsConnectionOf accepted inner.socket

-- what comes in alone
abbrev pub read_interests : Interest
read_interests = record { priority = false; writable = false; readable = true }

-- a call of the system answered an error
abbrev pub SystemRefuses : Type 0
SystemRefuses = (error : Error) × SocketAnswered error

-- It was shut down for writing, and from then on the poll reports under this token what comes in, and nothing else.
pub record IsHalfClosed (token : Token) (s : CountedSocket) : Type 0 where
  pub ended : EndedWriting s
  pub registered : WasReregistered s token read_interests
