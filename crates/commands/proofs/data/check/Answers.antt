use Rattle.commands.proofs.data.check.Goals as goal
use Rattle.std.proofs.Common.{refl, Ok, Err}
use Rattle.std.proofs.lemmas.Result.{err_from_is_err_and}

pub returns-in_err-device : goal.returns-in_err-device
returns-in_err-device g c =
    let p = err_from_is_err_and c.from_residual.result c.from_residual.ensures.1 in
    (Err p.0, c.open_to_check.new.self, (c.in_err-device.field-0.0, c.in_err-device.ensures, p.2), (p.1, refl))

pub returns : goal.returns
returns g c = (
  Ok c.in_ok-device.device,
  c.open_to_check.new.self,
  c.in_ok-device.ensures,
  (c.check_device-checked.result.1, c.check_device-checked.ensures.checks, c.close.ensures),
)
