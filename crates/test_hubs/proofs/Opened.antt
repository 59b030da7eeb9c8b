-- A hub that was opened stands for a state.
use Rattle.model.specs.Machine.{opened}
use Rattle.sector.specs.declared.device.Sectors.{Ghosts}
use Rattle.sessions.specs.Restarts.{IsOpened}
use Rattle.sessions.specs.SessionStreams.{hub_over}
use Rattle.sessions.specs.declared.hub.Hub.{Hub}
use Rattle.stream_driver.specs.Sessions.{Stands}

pub stands_once_opened : {D : Type 0} {g : Ghosts D} (hub : Hub D g) → IsOpened hub → Stands hub
stands_once_opened {g} hub start = ∣ (hub_over (opened start.map start.begins.used (g.size start.dev)), start.begins.stands) ∣₁
