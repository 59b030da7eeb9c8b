use Rattle.commit_log.proofs.record.open_staged.Goals as goal
use Rattle.std.proofs.Common.{◌∙◌, ap, arith}
use Rattle.commit_log.proofs.Calls.{leaves_no_more}
use Rattle.commit_log.proofs.CopyProtocol.{nothing_yet, one_write, no_write, settled_reads}
use Rattle.commit_log.proofs.Protocol.{after_open, acknowledged}
use Rattle.commit_log.proofs.Records.{open_gate_open}
use Rattle.commit_log.proofs.record.open_staged.Given.{Over}
use Rattle.commit_log.proofs.record.open_staged.Goals.{After-write}
use Rattle.commit_log.specs.LogState.{OnlyWrites}
use Rattle.commit_log.specs.RecordFormat.{is_gate_open}

pub returns-in_err-write-clause-any_moment : goal.returns-in_err-write-clause-any_moment
returns-in_err-write-clause-any_moment g c keeps lists writes is proper here =
    (after_open g.D.Sectors lists writes c.args.device.now c.write.new.self c.args.gate is proper here (g.met.D.Sectors.only_now keeps c.args.device.now)
    (c.write.ensures.crash keeps) (c.write.ensures.time keeps)).time

pub returns-in_err-sync-clause-any_moment : goal.returns-in_err-sync-clause-any_moment
returns-in_err-sync-clause-any_moment g c keeps lists writes is proper here =
    let opening = after_open g.D.Sectors lists writes c.args.device.now c.write.new.self c.args.gate is proper here
    (g.met.D.Sectors.only_now keeps c.args.device.now) (c.write.ensures.crash keeps) (c.write.ensures.time keeps) in
    (leaves_no_more g.D.Sectors c.sync.new.self opening (c.sync.ensures.crash keeps) (c.sync.ensures.time keeps)).time

pub returns-clause-any_moment : goal.returns-clause-any_moment
returns-clause-any_moment g c keeps lists writes is proper here =
    let opening = after_open g.D.Sectors lists writes c.args.device.now c.write.new.self c.args.gate is proper here
    (g.met.D.Sectors.only_now keeps c.args.device.now) (c.write.ensures.crash keeps) (c.write.ensures.time keeps) in
    (leaves_no_more g.D.Sectors c.sync.new.self opening (c.sync.ensures.crash keeps) (c.sync.ensures.time keeps)).time

pub returns-clause-acknowledged : goal.returns-clause-acknowledged
returns-clause-acknowledged g c keeps lists writes is proper here =
    let opening = after_open g.D.Sectors lists writes c.args.device.now c.write.new.self c.args.gate is proper here
    (g.met.D.Sectors.only_now keeps c.args.device.now) (c.write.ensures.crash keeps) (c.write.ensures.time keeps) in
    acknowledged g.D.Sectors lists writes c.write.new.self c.sync.new.self c.args.gate (g.D.Sectors.size c.sync.new.self) (c.in_ok-sync.ensures.settles keeps)
    c.open_gate.result is proper (omega (arith, c.requires, c.write.ensures.counts.sectors, c.sync.ensures.size)) (c.in_ok-write.ensures.written keeps)
    (ap is_gate_open c.open_gate.ensures ∙ open_gate_open) opening.left

opened : (g : Over) (c : After-write g) → g.D.Sectors.keeps_model → OnlyWrites g.D.Sectors c.args.gate 1 c.args.device.now c.write.new.self
opened g c keeps =
    let nothing = nothing_yet g.D.Sectors (g.met.D.Sectors.only_now keeps) c.args.gate 1 c.args.device.now in
    one_write g.D.Sectors c.args.gate 1 c.args.device.now c.args.device.now c.write.new.self nothing c.args.gate (omega arith) (omega arith)
    (c.write.ensures.others keeps) (c.write.ensures.crash keeps) (c.write.ensures.time keeps)

pub returns-in_err-write-clause-alone : goal.returns-in_err-write-clause-alone
returns-in_err-write-clause-alone g c keeps = opened g (goal.at.returns-in_err-write-clause-alone g c).After-write keeps

pub returns-in_err-sync-clause-alone : goal.returns-in_err-sync-clause-alone
returns-in_err-sync-clause-alone g c keeps =
    let so_far = opened g (goal.at.returns-in_err-sync-clause-alone g c).After-write keeps in
    no_write g.D.Sectors c.args.gate 1 c.args.device.now c.write.new.self c.sync.new.self so_far (c.in_err-sync.ensures.reads keeps)
    (c.sync.ensures.crash keeps) (c.sync.ensures.time keeps)

pub returns-clause-alone : goal.returns-clause-alone
returns-clause-alone g c keeps =
    let so_far = opened g (goal.at.returns-clause-alone g c).After-write keeps in
    let reads = settled_reads g.D.Sectors c.write.new.self c.sync.new.self (g.D.Sectors.size c.sync.new.self) (c.in_ok-sync.ensures.settles keeps) in
    no_write g.D.Sectors c.args.gate 1 c.args.device.now c.write.new.self c.sync.new.self so_far reads (c.sync.ensures.crash keeps) (c.sync.ensures.time keeps)
