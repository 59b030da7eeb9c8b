use Rattle.commands.proofs.serving.open.Goals as goal
use Rattle.std.proofs.Common.{◌∙◌, ap, refl, subst, Ok, Err}
use Rattle.std.proofs.lemmas.Result.{err_from_is_err_and}
use Rattle.sessions.specs.StandsFor.{device}
use Rattle.commands.specs.declared.faults.Fault.TheVariants.{Listen}

pub returns-in_default : goal.returns-in_default
returns-in_default g c = (Err Listen, tt, (refl, c.in_default.ensures.value), (refl, refl))

pub returns-in_err-device : goal.returns-in_err-device
returns-in_err-device g c =
    let p = err_from_is_err_and c.from_residual.result c.from_residual.ensures.1 in (
      Ok c.in-Ok.address,
      tt,
      c.in-Ok.ensures.value,
      (Err p.0, c.open.new.self, (c.in_err-device.field-0.0, c.in_err-device.ensures, p.2), (p.1, refl)),
    )

pub returns-in-Err : goal.returns-in-Err
returns-in-Err g c =
    let after = c.in-Err.unopened.device in (
      Ok c.in-Ok.address,
      tt,
      c.in-Ok.ensures.value,
      (
        Ok c.in_ok-device.device,
        c.open.new.self,
        c.in_ok-device.ensures,
        (
          after,
          (Err c.from.result, after, (c.in-Err.unopened, (c.in-Err.ensures.reports, tt, c.in-Err.ensures.opens, refl), c.from.ensures), (refl, refl)),
          c.close.ensures,
        ),
      ),
    )

pub returns-in-Ok-listen : goal.returns-in-Ok-listen
returns-in-Ok-listen g c =
    let after = device c.in-Ok-open.hub in (
      Ok c.in-Ok.address,
      tt,
      c.in-Ok.ensures.value,
      (
        Ok c.in_ok-device.device,
        c.open.new.self,
        c.in_ok-device.ensures,
        (
          after,
          (
            Ok c.in-Ok-open.hub,
            after,
            (c.in-Ok-open.ensures.reports, c.in-Ok-open.ensures.begins, c.in-Ok-open.ensures.opens, refl),
            (c.in-Ok-listen.ensures.listens, refl),
          ),
          refl,
        ),
      ),
    )

pub returns-in-Err-listen : goal.returns-in-Err-listen
returns-in-Err-listen g c =
    let after = device c.in-Ok-open.hub in
    let closed = c.into_device.ensures ∙ ap (λ hub. device hub) c.in-Err-listen.ensures.back in (
      Ok c.in-Ok.address,
      tt,
      c.in-Ok.ensures.value,
      (
        Ok c.in_ok-device.device,
        c.open.new.self,
        c.in_ok-device.ensures,
        (
          after,
          (
            Ok c.in-Ok-open.hub,
            after,
            (c.in-Ok-open.ensures.reports, c.in-Ok-open.ensures.begins, c.in-Ok-open.ensures.opens, refl),
            ((c.in-Err-listen.unserved, c.in-Err-listen.ensures.listens, c.or_memory.ensures), refl),
          ),
          subst (λ dev. g.F.DataFiles.closes c.open.new.self dev c.close-in-Err-listen.new.self) closed c.close-in-Err-listen.ensures,
        ),
      ),
    )
