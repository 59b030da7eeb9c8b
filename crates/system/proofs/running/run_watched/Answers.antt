use Rattle.std.proofs.Common.{refl, subst}
use Rattle.commands.specs.Words.{AnswersTo}
use Rattle.system.proofs.running.run_watched.Goals as goal

pub returns : goal.returns
returns g c =
    let ran = c.run_command.ensures in (
      _,
      c.run_command.new.environment,
      (ran.0, ran.1, subst (λ words. AnswersTo words ran.0) c.new-3.ensures ran.2, ran.3, ran.4),
      refl,
      refl,
    )
