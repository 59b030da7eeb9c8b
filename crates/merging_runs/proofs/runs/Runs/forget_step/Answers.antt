use Rattle.merging_runs.proofs.runs.Runs.forget_step.Goals as goal

pub returns-clause-kept : goal.returns-clause-kept
returns-clause-kept g c = λ active last h. c.sweep.ensures.kept active last (c.free_old-most.ensures.kept active last h)
