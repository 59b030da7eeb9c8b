-- The bytes of each connection, from its beginning on, and those of its session.
use Rattle.std.specs.Prelude.{◌≡◌, ◌≢◌, ℕ, ◌++◌, List, Option, Some}
use Rattle.model.specs.Map.{Bytes}
use Rattle.sector.specs.declared.device.Sectors.{Ghosts}
use Rattle.sessions.specs.SessionStreams.{HubState, SessionStream, replies_text, requests_text, stream_of}
use Rattle.sessions.specs.declared.events.Status.TheVariants.{Open}
use Rattle.sessions.specs.declared.hub.Hub.{Hub}
use Rattle.stream_driver.specs.Buffers.{traffic_through}
use Rattle.stream_driver.specs.Sessions.{RunLeads}
use Rattle.stream_driver.specs.Traffic.{Traffic}
use Rattle.stream_driver.specs.declared.buffered.BufferedStream.{BufferedStream}
use Rattle.stream_driver.specs.declared.entries.Entry.{Entry}
use Rattle.stream_driver.specs.declared.entries.EntryState.TheVariants.{Gone}
use Rattle.event_loop.specs.Sockets.{SocketsReport, traffic_of}
use Rattle.event_loop.specs.Tables.{slot_at}
use Rattle.event_loop.specs.declared.socket.Socket.{Socket}

module _ {T : Type 0} (reports : Type 0) (traffic : T → Traffic) where
  -- what was read from the stream is what came in, and what was written to it is what was reported as sent
  abbrev pub IsCarried : T → SessionStream → Type 0
  IsCarried stream st = reports → ((traffic stream).received ≡ st.received) × ((traffic stream).sent ≡ st.sent)

  -- so it is of the entry's session, which is present
  abbrev pub HasItsBytes : HubState → Entry T → Type 0
  HasItsBytes h entry = (st : SessionStream) × (stream_of h entry.session ≡ Some st) × IsCarried entry.stream st

  -- so it is of each entry that isn't gone
  abbrev pub HaveBytes : HubState → List (Option (Entry T)) → Type 0
  HaveBytes h slots = (key : ℕ) (entry : Entry T) → slot_at slots key ≡ Some entry → entry.state ≢ Gone
      → HasItsBytes h entry

-- what led from one hub to the other kept the connections' bytes those of their sessions, in each state that the first
-- stood for
abbrev pub KeepBytes : {D : Type 0} {g : Ghosts D} → Hub D g → List (Option (Entry (BufferedStream Socket))) → Hub D g
    → List (Option (Entry (BufferedStream Socket))) → Type 0
KeepBytes hub slots later new =
    RunLeads hub later (λ h k. HaveBytes SocketsReport (traffic_through traffic_of) h.hub slots
    → HaveBytes SocketsReport (traffic_through traffic_of) k.hub new)

-- What came in over a connection is the spellings of its session's requests, and the beginning of one; what went over
-- it, with what its stream buffers and what is pending, is the texts of the machine's replies to them.
pub record SpeaksFor (stream : BufferedStream Socket) (st : SessionStream) : Type 0 where
  pub rest : Bytes
  pub inbox : st.now.status ≡ Open → rest ≡ st.now.inbox
  pub came : (traffic_through traffic_of stream).received ≡ requests_text st ++ rest
  pub went : replies_text st ≡ (traffic_through traffic_of stream).sent ++ st.now.pending
