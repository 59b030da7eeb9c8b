use Rattle.last_readers.proofs.steps.end_of.Goals as goal
use Rattle.std.proofs.Common.{◌∙◌}
use Rattle.last_readers.proofs.StepLaws.{end_is}

pub returns-in-Some : goal.returns-in-Some
returns-in-Some c =
    c.number_above.ensures ∙ end_is c.args.steps.now.items _ c.in-Some.step.now c.in-Some.ensures.last.1
