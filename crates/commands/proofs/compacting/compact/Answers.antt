use Rattle.commands.proofs.compacting.compact.Goals as goal
use Rattle.std.proofs.Common.{◌∙◌, arith, ap, refl, Ok, Err}
use Rattle.std.proofs.lemmas.Result.{err_from_is_err_and}
use Rattle.commit_log.specs.Copying.{copy_size}
use Rattle.commands.proofs.Rooms.{given, has_room}

pub returns-in_err-found : goal.returns-in_err-found
returns-in_err-found g c =
    let p = err_from_is_err_and c.from_residual.result c.from_residual.ensures.1 in
    (Err c.in_err-found.field-0.0, c.read_file.new.files, c.in_err-found.ensures, (p.1 ∙ ap Err p.2, refl))

pub returns-in_err-count : goal.returns-in_err-count
returns-in_err-count g c =
    let p = err_from_is_err_and c.from_residual-in_err-count.result c.from_residual-in_err-count.ensures.1 in
    let needed = c.copy_sectors-needed in
    let is = given (Err c.in_err-count.field-0.0) c.in_ok-found.found.1 c.args.sectors needed.result (copy_size c.in_ok-found.found.0)
    c.in_err-count.ensures.none c.in_err-count.ensures.some needed.ensures.some needed.ensures.none in (
      Ok c.in_ok-found.found,
      c.read_file.new.files,
      c.in_ok-found.ensures,
      (Err c.in_err-count.field-0.0, c.read_file.new.files, (is, refl), (p.1 ∙ ap Err p.2, refl)),
    )

pub returns-in_err-device : goal.returns-in_err-device
returns-in_err-device g c =
    let p = err_from_is_err_and c.from_residual-in_err-device.result c.from_residual-in_err-device.ensures.1 in
    let needed = c.copy_sectors-needed in
    let is = given (Ok c.in_ok-count.count) c.in_ok-found.found.1 c.args.sectors needed.result (copy_size c.in_ok-found.found.0)
    c.in_ok-count.ensures.none c.in_ok-count.ensures.some needed.ensures.some needed.ensures.none in (
      Ok c.in_ok-found.found,
      c.read_file.new.files,
      c.in_ok-found.ensures,
      (
        Ok c.in_ok-count.count,
        c.read_file.new.files,
        (is, refl),
        (Err p.0, c.create.new.self, (c.in_err-device.field-0.0, c.in_err-device.ensures.makes, p.2), (p.1, refl)),
      ),
    )

pub returns : goal.returns
returns g c =
    let needed = c.copy_sectors-needed in
    let is = given (Ok c.in_ok-count.count) c.in_ok-found.found.1 c.args.sectors needed.result (copy_size c.in_ok-found.found.0)
    c.in_ok-count.ensures.none c.in_ok-count.ensures.some needed.ensures.some needed.ensures.none in
    let room = has_room (copy_size c.in_ok-found.found.0) c.in_ok-found.found.1 c.args.sectors c.in_ok-count.count is in
    let size = c.in_ok-device.ensures.size in (
      Ok c.in_ok-found.found,
      c.read_file.new.files,
      c.in_ok-found.ensures,
      (
        Ok c.in_ok-count.count,
        c.read_file.new.files,
        (is, refl),
        (
          Ok c.in_ok-device.device,
          c.create.new.self,
          c.in_ok-device.ensures.makes,
          (c.copy_device-copied.new.device, c.may_report.ensures, c.copy_device-copied.ensures.copies (omega (arith, room, size)), c.close.ensures, refl),
        ),
      ),
    )
