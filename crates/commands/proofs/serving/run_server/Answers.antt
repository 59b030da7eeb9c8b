use Rattle.commands.proofs.serving.run_server.Goals as goal
use Rattle.std.proofs.Common.{refl, Ok, Err}
use Rattle.std.proofs.lemmas.Result.{err_from_is_err_and}
use Rattle.commands.specs.declared.faults.Fault.TheVariants.{Listen}

pub returns-in_default : goal.returns-in_default
returns-in_default g c = (Err Listen, c.args.server.now, (c.in_default.field-0, (c.in_default.ensures, refl), refl), (refl, refl))

pub returns-in_err-print_listening : goal.returns-in_err-print_listening
returns-in_err-print_listening g c =
    let p = err_from_is_err_and c.from_residual.result c.from_residual.ensures.1 in (
      Ok c.in-Ok.address,
      c.args.server.now,
      (c.in-Ok.ensures, refl),
      (Err p.0, c.print_listening.new.out, (c.in_err-print_listening.field-0.0, c.in_err-print_listening.ensures, p.2), (p.1, refl)),
    )

pub returns : goal.returns
returns g c = (
  Ok c.in-Ok.address,
  c.args.server.now,
  (c.in-Ok.ensures, refl),
  (Ok c.in_ok-print_listening.field-0, c.print_listening.new.out, c.in_ok-print_listening.ensures, (c.serve_turns.ensures, refl)),
)
