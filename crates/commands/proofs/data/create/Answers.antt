use Rattle.commands.proofs.data.create.Goals as goal
use Rattle.std.proofs.Common.{arith, refl, Ok, Err}
use Rattle.std.proofs.lemmas.Result.{err_from_is_err_and}
use Rattle.commands.proofs.Rooms.{alone}

pub returns-in_err-device-clause-creates : goal.returns-in_err-device-clause-creates
returns-in_err-device-clause-creates g c =
    let p = err_from_is_err_and c.from_residual.result c.from_residual.ensures.1 in
    (Err p.0, c.create.new.self, (c.in_err-device.field-0.0, c.in_err-device.ensures.makes, p.2), (p.1, refl))

pub returns-clause-creates : goal.returns-clause-creates
returns-clause-creates g c = (
  Ok c.in_ok-device.device,
  c.create.new.self,
  c.in_ok-device.ensures.makes,
  (
    c.format_device-formatted.new.device,
    c.in_ok-device.ensures.size,
    record {
      fault = c.format_device-formatted.ensures.fault;
      alone = alone c.format_device-formatted.result c.args.sectors c.format_device-formatted.ensures.errors
          (λ is. let few = c.format_device-formatted.ensures.full.0 is in let size = c.in_ok-device.ensures.size in omega (arith, few, size))
          c.requires.at_least;
      formatted = c.format_device-formatted.ensures.formatted;
    },
    c.close.ensures,
  ),
)
