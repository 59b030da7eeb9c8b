use Rattle.commands.proofs.compacting.read_file.Goals as goal
use Rattle.std.proofs.Common.{refl, Ok, Err}
use Rattle.std.proofs.lemmas.Result.{err_from_is_err_and}

pub returns-in_err-device : goal.returns-in_err-device
returns-in_err-device g c =
    let p = err_from_is_err_and c.from_residual.result c.from_residual.ensures.1 in
    (Err p.0, c.open_to_read.new.self, (c.in_err-device.field-0.0, c.in_err-device.ensures, p.2), (p.1, refl))

pub returns-in_err-map : goal.returns-in_err-map
returns-in_err-map g c =
    let p = err_from_is_err_and c.from_residual-in_err-map.result c.from_residual-in_err-map.ensures.1 in (
      Ok c.in_ok-device.device,
      c.open_to_read.new.self,
      c.in_ok-device.ensures,
      (
        c.read_map-read.new.device,
        (
          Err p.0,
          c.read_map-read.new.device,
          (
            c.in_err-map.field-0.0,
            record {
              fault = c.in_err-map.ensures.calls.1;
              alone = c.in_err-map.ensures.errors;
              found = c.in_err-map.ensures.refused;
              during = c.in_err-map.ensures.during;
            },
            p.2,
          ),
          (p.1, refl),
        ),
        c.close.ensures,
      ),
    )

pub returns : goal.returns
returns g c = (
  Ok c.in_ok-device.device,
  c.open_to_read.new.self,
  c.in_ok-device.ensures,
  (
    c.read_map-read.new.device,
    (
      Ok (c.in_ok-map.map, c.in_ok-map.field-0-1),
      c.read_map-read.new.device,
      record {
        fault = c.in_ok-map.ensures.calls.1.0;
        alone = tt;
        found = λ keeps. let m = c.in_ok-map.ensures.map keeps in (m.0, m.1, m.2.0);
        during = c.in_ok-map.ensures.during;
      },
      (rw c.count-count.ensures refl, refl),
    ),
    c.close.ensures,
  ),
)
