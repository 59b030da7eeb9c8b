use Rattle.commit_log.proofs.record.write_record.Goals as goal
use Rattle.std.proofs.Common.{◌+◌, ◌/◌, arith, length}
use Rattle.std.proofs.lemmas.Grind.{common_steps}
use Rattle.sector.proofs.Crashes.{of_more}
use Rattle.commit_log.proofs.CopyProtocol.{nothing_yet, many_writes}
use Rattle.commit_log.proofs.record.write_record.Given.{Over}
use Rattle.commit_log.proofs.record.write_record.Goals.{After-stage}
use Rattle.commit_log.specs.LogState.{OnlyWrites}

pub returns-in_err-open_staged-clause-any_moment : goal.returns-in_err-open_staged-clause-any_moment
returns-in_err-open_staged-clause-any_moment g c keeps lists writes is here = grind (arith, common_steps, of_more)

pub returns-clause-any_moment : goal.returns-clause-any_moment
returns-clause-any_moment g c keeps lists writes is here = grind (arith, common_steps, of_more)

pub returns-clause-acknowledged : goal.returns-clause-acknowledged
returns-clause-acknowledged g c keeps lists writes is here = grind (arith, common_steps)

staged : (g : Over) (c : After-stage g) → g.D.Sectors.keeps_model
    → OnlyWrites g.D.Sectors c.args.gate (length c.args.body.now / 512 + 2) c.args.device.now c.stage.new.device
staged g c keeps =
    let body = length c.args.body.now / 512 in
    let nothing = nothing_yet g.D.Sectors (g.met.D.Sectors.only_now keeps) c.args.gate (body + 2) c.args.device.now in
    many_writes g.D.Sectors c.args.gate (body + 2) c.args.device.now c.args.device.now c.stage.new.device nothing (c.args.gate + 1) (body
    + 1) (omega arith) (omega arith) (c.stage.ensures.alone keeps)

pub returns-in_err-stage-clause-alone : goal.returns-in_err-stage-clause-alone
returns-in_err-stage-clause-alone g c keeps = staged g (goal.at.returns-in_err-stage-clause-alone g c).After-stage keeps

pub returns-in_err-open_staged-clause-alone : goal.returns-in_err-open_staged-clause-alone
returns-in_err-open_staged-clause-alone g c keeps =
    let so_far = staged g (goal.at.returns-in_err-open_staged-clause-alone g c).After-stage keeps in
    many_writes g.D.Sectors c.args.gate (length c.args.body.now / 512
    + 2) c.args.device.now c.stage.new.device c.open_staged.new.device so_far c.args.gate 1 (omega arith) (omega arith) (c.open_staged.ensures.alone keeps)

pub returns-clause-alone : goal.returns-clause-alone
returns-clause-alone g c keeps =
    let so_far = staged g (goal.at.returns-clause-alone g c).After-stage keeps in
    many_writes g.D.Sectors c.args.gate (length c.args.body.now / 512
    + 2) c.args.device.now c.stage.new.device c.open_staged.new.device so_far c.args.gate 1 (omega arith) (omega arith) (c.open_staged.ensures.alone keeps)
