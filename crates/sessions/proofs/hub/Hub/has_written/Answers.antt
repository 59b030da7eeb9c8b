use Rattle.sessions.proofs.hub.Hub.has_written.Goals as goal

pub returns-clause-written : goal.returns-clause-written
returns-clause-written g c h stands = c.has_written.ensures.written h.machine stands.engine
