-- Who waits, and for what: an entry that is idle waits for its peer, and lacks nothing that the loop could do.
use Rattle.std.specs.Prelude.{◌≡◌, ◌≢◌, ◌⊎◌, ℕ, false, List, [], Option, Some}
use Rattle.sector.specs.declared.device.Sectors.{Ghosts}
use Rattle.sessions.specs.SessionStreams.{HubState}
use Rattle.sessions.specs.StandsFor.{StandsFor}
use Rattle.sessions.specs.declared.hub.Hub.{Hub}
use Rattle.stream_driver.specs.Buffers.{buffered_in}
use Rattle.stream_driver.specs.Sessions.{AwaitsMore, pending_at}
use Rattle.stream_driver.specs.Traffic.{Traffic}
use Rattle.stream_driver.specs.Waits.{EndsOn, HasReadAll}
use Rattle.stream_driver.specs.declared.answers.Call.TheVariants.{Write}
use Rattle.stream_driver.specs.declared.answers.WriteAnswer.TheVariants.{Blocked as WriteBlocked}
use Rattle.stream_driver.specs.declared.buffered.BufferedStream.{BufferedStream}
use Rattle.stream_driver.specs.declared.entries.Entry.{Entry}
use Rattle.stream_driver.specs.declared.entries.EntryState.TheVariants.{Idle}
use Rattle.event_loop.specs.Sockets.{CameShort, traffic_of}
use Rattle.event_loop.specs.Tables.{slot_at}
use Rattle.event_loop.specs.declared.socket.Socket.{Socket}

module _ {T : Type 0} (traffic : T → Traffic) (came_short : T → Type 0) (h : HubState) (s : ℕ)
    (stream : BufferedStream T) where
  -- the last call was a write, which blocked, and something is pending or buffered
  abbrev pub WaitsToWrite : Type 0
  WaitsToWrite = EndsOn traffic (Write WriteBlocked) stream
      × ((pending_at h s ≢ []) ⊎ (buffered_in stream.buffered ≢ []))

  -- all was read that the peer has sent, nothing is pending or buffered, and the inbox holds only the beginning of a
  -- request
  abbrev pub WaitsToRead : Type 0
  WaitsToRead = HasReadAll came_short traffic stream × AwaitsMore h s

  abbrev pub WaitsForPeer : Type 0
  WaitsForPeer = WaitsToWrite ⊎ WaitsToRead

-- so it is of each entry that is idle
abbrev pub IdleWait : {T : Type 0} → (T → Traffic) → (T → Type 0) → HubState → List (Option (Entry (BufferedStream T)))
    → Type 0
IdleWait {T} traffic came_short h slots =
    (key : ℕ) (entry : Entry (BufferedStream T)) → slot_at slots key ≡ Some entry → entry.state ≡ Idle
    → WaitsForPeer traffic came_short h entry.session entry.stream

-- the hub stands for such a state
abbrev pub LackNothing : {D : Type 0} {g : Ghosts D} → Hub D g → List (Option (Entry (BufferedStream Socket))) → Type 0
LackNothing hub slots = ∥ ((h : HubState) × StandsFor hub h × IdleWait traffic_of CameShort h slots) ∥₁

-- no drive of it is under way
pub record IsRested {T : Type 0} (b : BufferedStream T) : Type 0 where
  pub short : b.is_short ≡ false
  pub drained : b.is_drained ≡ false

-- so it is of each entry
abbrev pub AreRested : {T : Type 0} → List (Option (Entry (BufferedStream T))) → Type 0
AreRested {T} slots = (key : ℕ) (entry : Entry (BufferedStream T)) → slot_at slots key ≡ Some entry
    → IsRested entry.stream
