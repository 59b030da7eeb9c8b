-- A hub that was opened.
use Rattle.model.specs.Machine.{opened}
use Rattle.sector.specs.declared.device.Sectors.{Ghosts}
use Rattle.sessions.specs.Restarts.{IsOpened}
use Rattle.sessions.specs.SessionStreams.{hub_over}
use Rattle.sessions.specs.declared.hub.Hub.{Hub}
use Rattle.stream_driver.specs.Sessions.{Stands}
use Rattle.event_loop.specs.Tables.{HasNobody}

module _ {D : Type 0} {g : Ghosts D} (hub : Hub D g) (start : IsOpened hub) where
  pub opened_nobody : HasNobody hub
  opened_nobody = (start.begins.stands.sessions, start.begins.stands.latest)

  pub opened_stands : Stands hub
  opened_stands = ∣ (hub_over (opened start.map start.begins.used (g.size start.dev)), start.begins.stands) ∣₁
