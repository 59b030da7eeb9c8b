use Rattle.sessions.proofs.hub.Hub.new.Goals as goal
use Rattle.sessions.specs.SessionStreams.{Begun}

pub returns-clause-stands : goal.returns-clause-stands
returns-clause-stands g c m h = assumption (Begun m (c.law_is_lawful.ensures.lawful m h).0 (c.requires m h))
