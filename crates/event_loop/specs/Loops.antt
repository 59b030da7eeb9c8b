-- The hub of a loop, its sessions, and where it listens.
use Rattle.std.specs.Prelude.{◌≡◌, ◌+◌, ◌≤◌, []}
use Rattle.std.specs.declared.net.SocketAddr.{SocketAddr}
use Rattle.mio.specs.Events.{capacity as events_capacity}
use Rattle.sector.specs.declared.device.Sectors.{Ghosts}
use Rattle.sessions.specs.declared.events.TheConstants.{SESSIONS_MAX}
use Rattle.sessions.specs.declared.hub.Hub.{Hub}
use Rattle.socket_calls.specs.HappenedCalls.{IsAddressOf, ListensAt, ReportsAccepts}
use Rattle.stream_driver.specs.Entries.{HaveSessions}
use Rattle.event_loop.specs.Sockets.{read_interests}
use Rattle.event_loop.specs.Tables.{HaveEntries}
use Rattle.event_loop.specs.declared.lingering.TheConstants.{LINGERING_MAX}
use Rattle.event_loop.specs.declared.listening.Listening.{Listening}
use Rattle.event_loop.specs.declared.server.EventLoop.{EventLoop}
use Rattle.event_loop.specs.declared.server.TheConstants.{LISTENER}

abbrev pub hub_of : {D : Type 0} {g : Ghosts D} → EventLoop D g → Hub D g
hub_of events = events.hub

-- The sessions of the hub are those of the entries that aren't gone, each of one entry: none is lost, and none is made
-- up.
pub record HasItsSessions {D : Type 0} {g : Ghosts D} (events : EventLoop D g) : Type 0 where
  pub have : HaveSessions events.hub events.table.slots
  pub all : HaveEntries events.hub events.table.slots

-- It listens at this address, and the poll reports under the listener's token that connections wait, and nothing else.
pub record ListensFor {D : Type 0} {g : Ghosts D} (events : EventLoop D g) (address : SocketAddr) : Type 0 where
  pub listens : ListensAt events.port.listener address
  pub reported : ReportsAccepts events.port.listener LISTENER read_interests

-- What a loop is made of: it listens at this address, the poll reports that connections wait, and nothing else, and has
-- room for an event of each session, of each connection that lingers, and of the listener; and none lingers.
pub record HearsAt (address : SocketAddr) (listening : Listening) : Type 0 where
  pub listens : ListensAt listening.port.listener address
  pub reported : ReportsAccepts listening.port.listener LISTENER read_interests
  pub room : SESSIONS_MAX + LINGERING_MAX + 1 ≤ events_capacity listening.poller.events
  pub nobody : listening.lingering.queue.items ≡ []

-- the system said that its listener has this address
abbrev pub HasAddress : {D : Type 0} {g : Ghosts D} → EventLoop D g → SocketAddr → Type 0
HasAddress events address = IsAddressOf events.port.listener address
