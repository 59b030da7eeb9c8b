use Rattle.model.proofs.laws.law_answers_come_before.Goals as goal
use Rattle.model.proofs.Answered.{law_answers_come_before}

pub returns : goal.returns
returns c = record { before = law_answers_come_before }
