use Rattle.std.proofs.Common.{◌≡◌, ◌⊎◌, ◌∙◌, ap, inr, map, subst, sym}
use Rattle.std.specs.Prelude.{IfSome}
use Rattle.clap.specs.Faults.{is_simple_and_free}
use Rattle.clap.specs.Matches.{found_of}
use Rattle.clap.specs.Simple.{app_of}
use Rattle.clap.specs.Values.{kind_of}
use Rattle.clap.specs.Walk.{rows_of}
use Rattle.clap.specs.declared.error.kind.ErrorKind.TheVariants.{OutOfMemory}
use Rattle.command_line.specs.Asking.{AskForNothing, CommandAsks}
use Rattle.command_line.proofs.Given.{is_free, met}
use Rattle.command_line.proofs.Lacking.{meant_nothing, passed_on, refused, unnamed}
use Rattle.command_line.proofs.reading.read.Goals.{in-Some, in-None}
use Rattle.command_line.proofs.reading.read.Goals as goal

pub returns-in-Some-invocation-clause-asks : goal.returns-in-Some-invocation-clause-asks
returns-in-Some-invocation-clause-asks c = elim c.match-subcommand.branch [
  | in-Some w ↦
      let rows = rows_of (found_of w.in-Some.inner.now) in
      let means : CommandAsks w.in-Some.name.now rows c.in-Some-invocation.invocation =
      subst (λ r. IfSome r (CommandAsks w.in-Some.name.now rows)) (sym w.invocation-is ∙ c.in-Some-invocation.is) w.invocation-invocation.ensures.means in
      met (app_of c.in_ok-command.command) (map (λ word. word.now) c.args.words.now) c.in_ok-found.found w.in-Some.name.now rows c.in-Some-invocation.invocation
      c.in_ok-command.ensures.takes c.in_ok-found.ensures.kinds c.in_ok-found.ensures.ok.2 w.in-Some.ensures.name w.in-Some.ensures.rows means
  | in-None w ↦ let never = sym w.invocation-is ∙ c.in-Some-invocation.is in cc
]

pub returns-in_err-found-clause-refuses : goal.returns-in_err-found-clause-refuses
returns-in_err-found-clause-refuses c =
    passed_on c.from_residual-in_err-found.result c.in_err-found.field-0.0
    (λ error. (kind_of error ≡ OutOfMemory) ⊎ AskForNothing (map (λ word. word.now) c.args.words.now))
    c.from_residual-in_err-found.ensures.1
    (refused (app_of c.in_ok-command.command) (map (λ word. word.now) c.args.words.now) c.in_err-found.field-0.0 c.in_ok-command.ensures.takes
    (c.in_err-found.ensures.kinds (ap is_simple_and_free c.in_ok-command.ensures.takes ∙ is_free)))

pub returns-clause-refuses : goal.returns-clause-refuses
returns-clause-refuses c = inr (elim c.match-subcommand.branch [
  | in-Some w ↦
      meant_nothing (app_of c.in_ok-command.command) (map (λ word. word.now) c.args.words.now) c.in_ok-found.found w.in-Some.name.now
      (rows_of (found_of w.in-Some.inner.now)) c.in_ok-command.ensures.takes c.in_ok-found.ensures.ok.2 w.in-Some.ensures.name w.in-Some.ensures.rows
      (w.invocation-invocation.ensures.nothing (sym w.invocation-is ∙ c.in-None-invocation.is))
  | in-None w ↦
      unnamed (app_of c.in_ok-command.command) (map (λ word. word.now) c.args.words.now) c.in_ok-found.found c.in_ok-command.ensures.takes
      c.in_ok-found.ensures.ok.2 w.in-None.ensures.rows
])
