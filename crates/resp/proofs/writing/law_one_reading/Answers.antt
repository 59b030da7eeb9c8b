use Rattle.resp.proofs.writing.law_one_reading.Goals as goal
use Rattle.resp.proofs.Replies.{law_one_reading, first_replies}

pub returns : goal.returns
returns c = record { replies = law_one_reading; stream = first_replies }
