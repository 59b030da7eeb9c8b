use Rattle.commands.proofs.running.run_command.Goals as goal
use Rattle.std.proofs.Common.{refl, subst, Ok}
use Rattle.commands.specs.Endings.{ReportsEnding}

pub returns-in-Ok : goal.returns-in-Ok
returns-in-Ok g c = (
  Ok c.in-Ok.invocation,
  c.finish.result,
  c.in-Ok.ensures.asks,
  (
    c.execute-done.result,
    c.execute-done.new.environment,
    c.execute-done.ensures,
    subst (λ e. ReportsEnding g.O.Lines.writes g.E.Lines.writes e c.execute-done.new.environment.out c.execute-done.new.environment.err c.finish.result
        c.finish.new.out
        c.finish.new.err) c.from.ensures c.finish.ensures,
    refl,
  ),
  refl,
)
