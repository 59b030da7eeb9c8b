use Rattle.commands.proofs.serving.serve.Goals as goal
use Rattle.std.proofs.Common.{◌∙◌, ap, refl, subst, Ok, Err}
use Rattle.std.proofs.lemmas.Result.{err_from_is_err_and}

pub returns-in_err-server : goal.returns-in_err-server
returns-in_err-server g c =
    let p = err_from_is_err_and c.from_residual.result c.from_residual.ensures.1 in
    (Err c.in_err-server.field-0.0, (c.open.new.files, c.open.new.ports), c.in_err-server.ensures, (p.1 ∙ ap Err p.2, refl))

pub returns : goal.returns
returns g c =
    let ran = c.run_server-served in (
      Ok c.in_ok-server.server,
      (c.open.new.files, c.open.new.ports),
      c.in_ok-server.ensures,
      (
        ran.new.server,
        c.into_hub.result,
        ran.ensures,
        c.into_hub.ensures,
        subst (λ dev. g.F.DataFiles.closes c.open.new.files dev c.close.new.self) c.into_device.ensures c.close.ensures,
        refl,
      ),
    )
