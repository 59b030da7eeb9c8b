use Rattle.versions.proofs.laws.law_read_only_record_follows.Goals as goal
use Rattle.versions.proofs.Histories.{stands-read_only}

pub returns : goal.returns
returns c = stands-read_only
