-- One run for all that ever left over the connections of a loop: of those in its table, of those that linger, and of
-- those that a turn has closed.
use Rattle.std.specs.List.{AllByRecursion}
use Rattle.std.specs.Prelude.{◌≡◌, ◌≢◌, ℕ, ⊤, Bool, true, Some}
use Rattle.sector.specs.declared.device.Sectors.{Ghosts}
use Rattle.sessions.specs.Laws.{IsLawful}
use Rattle.sessions.specs.Restarts.{Served}
use Rattle.sessions.specs.SessionStreams.{SessionStream, stream_of}
use Rattle.sessions.specs.StandsFor.{StandsFor, device}
use Rattle.stream_driver.specs.Entries.{is_gone}
use Rattle.stream_driver.specs.Traffic.{Traffic}
use Rattle.stream_driver.specs.declared.buffered.BufferedStream.{BufferedStream}
use Rattle.stream_driver.specs.declared.entries.Entry.{Entry}
use Rattle.stream_driver.specs.declared.entries.EntryState.TheVariants.{Gone}
use Rattle.event_loop.specs.Departures.{HoldsAtEnds, IsExplained, present_state}
use Rattle.event_loop.specs.Sockets.{SocketsReport, socket_session, traffic_of}
use Rattle.event_loop.specs.TableBytes.{SpeaksFor}
use Rattle.event_loop.specs.Tables.{slot_at}
use Rattle.event_loop.specs.Turns.{IsTurn, IsUntouched}
use Rattle.event_loop.specs.declared.server.EventLoop.{EventLoop}
use Rattle.event_loop.specs.declared.socket.Socket.{Socket}

-- turns, one after another; where the poll of one failed, nothing else was done
pub data TurnsTo {D : Type 0} {g : Ghosts D} (first : EventLoop D g) : EventLoop D g → Type 0 where
  NoTurn : TurnsTo first first
  OneMore : (old new : EventLoop D g) → TurnsTo first old → IsTurn SocketsReport traffic_of old new → TurnsTo first new
  Fault : (old new : EventLoop D g) → TurnsTo first old → IsUntouched old new → TurnsTo first new

-- this holds of each session and of what its connection has moved, as each of these turns left or ended it
abbrev pub HoldsAtAllEnds : {D : Type 0} {g : Ghosts D} {first last : EventLoop D g} → (Bool → ℕ → Traffic → Type 0)
    → TurnsTo first last → Type 0
HoldsAtAllEnds P NoTurn = ⊤
HoldsAtAllEnds {D} {g} P (OneMore old new since turn) =
    HoldsAtAllEnds P since
    × HoldsAtEnds P (g.moment (device turn.driven.hub)) turn.drives.driven old.lingering.queue.items
    turn.linger.begun.all
HoldsAtAllEnds P (Fault old new since same) = HoldsAtAllEnds P since

-- The run from an opening to the hub after these turns comes to a lawful state. Each connection whose session has not
-- left speaks of that session there. And each connection that ever was is explained, each of its departures and, where
-- its session has left, what was served for it: of each in the table, which is that of its session, of each that
-- lingers, and of each as any of the turns left or closed it.
pub record IsOneRun {D : Type 0} {g : Ghosts D} {first last : EventLoop D g} (served : Served last.hub)
    (turns : TurnsTo first last) : Type 0 where
  pub stands : StandsFor last.hub (present_state served)
  pub lawful : IsLawful (present_state served)
  pub speak : (key : ℕ) (entry : Entry (BufferedStream Socket)) → slot_at last.table.slots key ≡ Some entry
      → entry.state ≢ Gone
      → (st : SessionStream) × (stream_of (present_state served) entry.session ≡ Some st) × SpeaksFor entry.stream st
  pub entries : (key : ℕ) (entry : Entry (BufferedStream Socket)) → slot_at last.table.slots key ≡ Some entry
      → (socket_session entry.stream.inner ≡ entry.session)
      × IsExplained served (is_gone entry.state) entry.session (traffic_of entry.stream.inner)
  pub linger :
      AllByRecursion (λ l. IsExplained served true (socket_session l.socket) (traffic_of l.socket))
      last.lingering.queue.items
  pub ended : HoldsAtAllEnds (IsExplained served) turns

-- there is such a run of whatever turns follow
abbrev pub HaveOneRun : {D : Type 0} {g : Ghosts D} → EventLoop D g → Type 0
HaveOneRun {D} {g} first = (last : EventLoop D g) (turns : TurnsTo first last) → ∥ ((served : Served last.hub)
    × IsOneRun served turns) ∥₁
