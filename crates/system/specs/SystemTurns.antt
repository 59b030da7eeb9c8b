-- What turns are, of the loop over the system's sockets.
use Rattle.std.specs.Prelude.{◌≡◌, Bool, None, Result, OnOk, OnErr}
use Rattle.std.specs.declared.io.Error.{Error}
use Rattle.std.specs.declared.net.SocketAddr.{SocketAddr}
use Rattle.sector.specs.declared.device.Sectors.{Ghosts}
use Rattle.sessions.specs.SessionStreams.{HubState}
use Rattle.sessions.specs.StandsFor.{StandsFor}
use Rattle.sessions.specs.declared.hub.Hub.{Hub}
use Rattle.event_loop.specs.Loops.{ListensFor, hub_of}
use Rattle.event_loop.specs.Sockets.{SocketsReport, traffic_of}
use Rattle.event_loop.specs.Turns.{IsTurn, IsUntouched, Waits}
use Rattle.event_loop.specs.declared.server.EventLoop.{EventLoop}

-- It polled once, and waited for as long as it may with no timeout. Where that failed it answered the fault, and
-- nothing else was done; else it drove and accepted.
abbrev pub TurnedSo : {D : Type 0} {g : Ghosts D} → EventLoop D g → Result (Unit {0}) Error → EventLoop D g → Type 0
TurnedSo old result new =
    Waits None old result new × OnOk result (IsTurn SocketsReport traffic_of old new)
    × OnErr result (IsUntouched old new)

-- it serves this hub, and listens at this address
pub record ServesAt {D : Type 0} {g : Ghosts D} (events : EventLoop D g) (address : SocketAddr) (hub : Hub D g)
    : Type 0 where
  pub hub_is : hub_of events ≡ hub
  pub listens : ListensFor events address

-- whether the store has stopped, in each state that its hub stands for
abbrev pub HasStopped : {D : Type 0} {g : Ghosts D} → EventLoop D g → Bool → Type 0
HasStopped events stopped = (h : HubState) → StandsFor (hub_of events) h → stopped ≡ h.machine.stopped
