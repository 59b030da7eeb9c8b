use Rattle.commands.proofs.running.execute.Goals as goal

pub returns-in-Serve : goal.returns-in-Serve
returns-in-Serve g c = rw c.in-Serve.is c.serve.ensures
