use Rattle.model.proofs.laws.law_faults_are_of_form.Goals as goal
use Rattle.model.proofs.Answered.{law_faults_are_of_form}

pub returns : goal.returns
returns c = law_faults_are_of_form
