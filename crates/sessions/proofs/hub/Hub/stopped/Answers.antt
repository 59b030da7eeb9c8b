use Rattle.sessions.proofs.hub.Hub.stopped.Goals as goal

pub returns : goal.returns
returns g c h stands = c.stopped.ensures h.machine stands.engine
