use Rattle.event_loop.proofs.polling.Poller.wait.Goals as goal

pub returns-in-Ok-clause-asked : goal.returns-in-Ok-clause-asked
returns-in-Ok-clause-asked c = record { asked = c.wait.ensures.asked; once = c.wait.ensures.once }

pub returns-in-Err-clause-asked : goal.returns-in-Err-clause-asked
returns-in-Err-clause-asked c = record { asked = c.wait.ensures.asked; once = c.wait.ensures.once }
