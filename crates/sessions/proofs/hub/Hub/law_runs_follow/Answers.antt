use Rattle.sessions.proofs.hub.Hub.law_runs_follow.Goals as goal
use Rattle.sessions.proofs.Runs.{leads_to, no_event, ran_parts, ran_then, sound}

pub returns-clause-none : goal.returns-clause-none
returns-clause-none g c =
    let law = c.law_machine_is_serializable.ensures in no_event c.args.self.now (sound c.args.self.now law.serializable law.places c.law_is_stored.ensures)

pub returns-clause-follow : goal.returns-clause-follow
returns-clause-follow g c = ran_then

pub returns-clause-part : goal.returns-clause-part
returns-clause-part g c = ran_parts

pub returns-clause-lead : goal.returns-clause-lead
returns-clause-lead g c = leads_to
