use Rattle.commit_log.proofs.record.stage.Goals as goal
use Rattle.std.proofs.Common.{◌+◌, ◌/◌, ◌∙◌, ap, arith, length}
use Rattle.commit_log.proofs.Calls.{leaves_no_more}
use Rattle.commit_log.proofs.CopyProtocol.{nothing_yet, one_write, many_writes, no_write, settled_reads}
use Rattle.commit_log.proofs.CopyProtocol.{KeepsBefore, kept_before, sectors_written}
use Rattle.commit_log.proofs.Protocol.{after_body, after_gate, staged_by}
use Rattle.commit_log.proofs.Records.{closed_gate_shut}
use Rattle.commit_log.proofs.record.stage.Given.{Over}
use Rattle.commit_log.proofs.record.stage.Goals.{After-write_sectors, After-write}
use Rattle.commit_log.specs.LogState.{OnlyWrites}
use Rattle.commit_log.specs.RecordFormat.{is_gate_open}

body_alone : (g : Over) (c : After-write_sectors g) → g.D.Sectors.keeps_model
    → OnlyWrites g.D.Sectors (c.args.gate + 1) (length c.args.body.now / 512) c.args.device.now c.write_sectors.new.self
body_alone g c keeps =
    sectors_written g.D.Sectors (g.met.D.Sectors.only_now keeps) (c.args.gate + 1) (length c.args.body.now / 512) c.args.device.now c.write_sectors.new.self
    (c.write_sectors.ensures.others keeps) (c.write_sectors.ensures.crash keeps) (c.write_sectors.ensures.time keeps)

body_behind : (g : Over) (c : After-write_sectors g) → g.D.Sectors.keeps_model
    → KeepsBefore g.D.Sectors (c.args.gate + 1) c.args.device.now c.write_sectors.new.self
body_behind g c keeps =
    kept_before g.D.Sectors (c.args.gate + 1) (length c.args.body.now / 512) c.args.device.now c.write_sectors.new.self (body_alone g c keeps)

pub returns-in_err-write_sectors-clause-any_moment : goal.returns-in_err-write_sectors-clause-any_moment
returns-in_err-write_sectors-clause-any_moment g c keeps lists writes is here =
    let kept = body_behind g (goal.at.returns-in_err-write_sectors-clause-any_moment g c).After-write_sectors keeps in
    (after_body g.D.Sectors lists writes c.args.device.now c.write_sectors.new.self (c.args.gate
    + 1) (omega (arith, is.gate_is)) here kept.crash kept.time).time

pub returns-in_err-write-clause-any_moment : goal.returns-in_err-write-clause-any_moment
returns-in_err-write-clause-any_moment g c keeps lists writes is here =
    let kept = body_behind g (goal.at.returns-in_err-write-clause-any_moment g c).After-write_sectors keeps in
    let body = after_body g.D.Sectors lists writes c.args.device.now c.write_sectors.new.self (c.args.gate
    + 1) (omega (arith, is.gate_is)) here kept.crash kept.time in
    (after_gate g.D.Sectors lists writes c.args.device.now c.write_sectors.new.self c.write.new.self (c.args.gate + 1
    + length c.args.body.now / 512) (omega (arith, is.gate_is)) body (c.write.ensures.crash keeps) (c.write.ensures.time keeps)).time

pub returns-in_err-sync-clause-any_moment : goal.returns-in_err-sync-clause-any_moment
returns-in_err-sync-clause-any_moment g c keeps lists writes is here =
    let kept = body_behind g (goal.at.returns-in_err-sync-clause-any_moment g c).After-write_sectors keeps in
    let body = after_body g.D.Sectors lists writes c.args.device.now c.write_sectors.new.self (c.args.gate
    + 1) (omega (arith, is.gate_is)) here kept.crash kept.time in
    let gate = after_gate g.D.Sectors lists writes c.args.device.now c.write_sectors.new.self c.write.new.self (c.args.gate + 1
    + length c.args.body.now / 512) (omega (arith, is.gate_is)) body (c.write.ensures.crash keeps) (c.write.ensures.time keeps) in
    (leaves_no_more g.D.Sectors c.sync.new.self gate (c.sync.ensures.crash keeps) (c.sync.ensures.time keeps)).time

pub returns-clause-any_moment : goal.returns-clause-any_moment
returns-clause-any_moment g c keeps lists writes is here =
    let kept = body_behind g (goal.at.returns-clause-any_moment g c).After-write_sectors keeps in
    let body = after_body g.D.Sectors lists writes c.args.device.now c.write_sectors.new.self (c.args.gate
    + 1) (omega (arith, is.gate_is)) here kept.crash kept.time in
    let gate = after_gate g.D.Sectors lists writes c.args.device.now c.write_sectors.new.self c.write.new.self (c.args.gate + 1
    + length c.args.body.now / 512) (omega (arith, is.gate_is)) body (c.write.ensures.crash keeps) (c.write.ensures.time keeps) in
    (leaves_no_more g.D.Sectors c.sync.new.self gate (c.sync.ensures.crash keeps) (c.sync.ensures.time keeps)).time

pub returns-clause-staged : goal.returns-clause-staged
returns-clause-staged g c keeps lists writes is here =
    let kept = body_behind g (goal.at.returns-clause-staged g c).After-write_sectors keeps in
    let body = after_body g.D.Sectors lists writes c.args.device.now c.write_sectors.new.self (c.args.gate
    + 1) (omega (arith, is.gate_is)) here kept.crash kept.time in
    let gate = after_gate g.D.Sectors lists writes c.args.device.now c.write_sectors.new.self c.write.new.self (c.args.gate + 1
    + length c.args.body.now / 512) (omega (arith, is.gate_is)) body (c.write.ensures.crash keeps) (c.write.ensures.time keeps) in
    staged_by g.D.Sectors lists writes c.write.new.self c.sync.new.self c.args.gate (g.D.Sectors.size c.sync.new.self) (c.in_ok-sync.ensures.settles keeps)
    c.write_sectors.new.self c.args.body.now c.closed_gate.result is
    (omega (arith, c.requires.room, c.write_sectors.ensures.counts.sectors, c.write.ensures.counts.sectors, c.sync.ensures.size))
    (c.in_ok-write_sectors.ensures.written keeps)
    (c.write.ensures.others keeps) (c.in_ok-write.ensures.written keeps) (ap is_gate_open c.closed_gate.ensures ∙ closed_gate_shut) gate.left

gate_written : (g : Over) (c : After-write g) → g.D.Sectors.keeps_model
    → OnlyWrites g.D.Sectors (c.args.gate + 1) (length c.args.body.now / 512 + 1) c.args.device.now c.write.new.self
gate_written g c keeps =
    let body = length c.args.body.now / 512 in
    let alone = sectors_written g.D.Sectors (g.met.D.Sectors.only_now keeps) (c.args.gate + 1) body c.args.device.now c.write_sectors.new.self
    (c.write_sectors.ensures.others keeps) (c.write_sectors.ensures.crash keeps) (c.write_sectors.ensures.time keeps) in
    let nothing = nothing_yet g.D.Sectors (g.met.D.Sectors.only_now keeps) (c.args.gate + 1) (body + 1) c.args.device.now in
    let written = many_writes g.D.Sectors (c.args.gate + 1) (body + 1) c.args.device.now c.args.device.now c.write_sectors.new.self nothing (c.args.gate
    + 1) body (omega arith) (omega arith) alone in
    one_write g.D.Sectors (c.args.gate + 1) (body + 1) c.args.device.now c.write_sectors.new.self c.write.new.self written (c.args.gate + 1
    + body) (omega arith) (omega arith) (c.write.ensures.others keeps) (c.write.ensures.crash keeps) (c.write.ensures.time keeps)

pub returns-in_err-write_sectors-clause-alone : goal.returns-in_err-write_sectors-clause-alone
returns-in_err-write_sectors-clause-alone g c keeps =
    let body = length c.args.body.now / 512 in
    let nothing = nothing_yet g.D.Sectors (g.met.D.Sectors.only_now keeps) (c.args.gate + 1) (body + 1) c.args.device.now in
    many_writes g.D.Sectors (c.args.gate + 1) (body + 1) c.args.device.now c.args.device.now c.write_sectors.new.self nothing (c.args.gate
    + 1) body (omega arith) (omega arith) (body_alone g (goal.at.returns-in_err-write_sectors-clause-alone g c).After-write_sectors keeps)

pub returns-in_err-write-clause-alone : goal.returns-in_err-write-clause-alone
returns-in_err-write-clause-alone g c keeps = gate_written g (goal.at.returns-in_err-write-clause-alone g c).After-write keeps

pub returns-in_err-sync-clause-alone : goal.returns-in_err-sync-clause-alone
returns-in_err-sync-clause-alone g c keeps =
    let so_far = gate_written g (goal.at.returns-in_err-sync-clause-alone g c).After-write keeps in
    no_write g.D.Sectors (c.args.gate + 1) (length c.args.body.now / 512
    + 1) c.args.device.now c.write.new.self c.sync.new.self so_far (c.in_err-sync.ensures.reads keeps) (c.sync.ensures.crash keeps)
    (c.sync.ensures.time keeps)

pub returns-clause-alone : goal.returns-clause-alone
returns-clause-alone g c keeps =
    let so_far = gate_written g (goal.at.returns-clause-alone g c).After-write keeps in
    let reads = settled_reads g.D.Sectors c.write.new.self c.sync.new.self (g.D.Sectors.size c.sync.new.self) (c.in_ok-sync.ensures.settles keeps) in
    no_write g.D.Sectors (c.args.gate + 1) (length c.args.body.now / 512
    + 1) c.args.device.now c.write.new.self c.sync.new.self so_far reads (c.sync.ensures.crash keeps) (c.sync.ensures.time keeps)
