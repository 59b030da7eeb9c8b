use Rattle.sessions.proofs.laws.law_replies_are_private.Goals as goal
use Rattle.sessions.proofs.StreamLaws.{same_bytes}

pub returns : goal.returns
returns c = same_bytes
