use Rattle.commit_log.proofs.copying.write_open_record.Goals as goal
use Rattle.std.proofs.Common.{◌∙◌, ◌/◌, ◌+◌, length, inl, arith}
use Rattle.std.proofs.lemmas.Result.{on_ok_weaker}
use Rattle.commit_log.proofs.CopyProtocol.{nothing_yet, sectors_written, one_write, many_writes}
use Rattle.commit_log.proofs.Records.{reads_record}
use Rattle.commit_log.specs.RecordFormat.{open_gate}

pub returns-clause-written : goal.returns-clause-written
returns-clause-written g c keeps =
    on_ok_weaker c.write_sectors.result
    (reads_record (g.D.Sectors.may_read c.write.new.self) (g.D.Sectors.may_read c.write_sectors.new.self) c.args.gate (length c.args.body.now / 512) open_gate
    c.args.body.now
    (λ s read. c.in_ok-write.ensures.written keeps s read ∙ c.open_gate.ensures)
    (λ i s lt read. c.write_sectors.ensures.others keeps i s (inl lt) read))
    (c.write_sectors.ensures.written keeps)

pub returns-in_err-write-clause-alone : goal.returns-in_err-write-clause-alone
returns-in_err-write-clause-alone g c keeps =
    let sectors = 1 + length c.args.body.now / 512 in
    let nothing = nothing_yet g.D.Sectors (g.met.D.Sectors.only_now keeps) c.args.gate sectors c.args.device.now in
    one_write g.D.Sectors c.args.gate sectors c.args.device.now c.args.device.now c.write.new.self nothing c.args.gate (omega arith) (omega arith)
    (c.write.ensures.others keeps) (c.write.ensures.crash keeps) (c.write.ensures.time keeps)

pub returns-clause-alone : goal.returns-clause-alone
returns-clause-alone g c keeps =
    let body = length c.args.body.now / 512 in
    let nothing = nothing_yet g.D.Sectors (g.met.D.Sectors.only_now keeps) c.args.gate (1 + body) c.args.device.now in
    let gate = one_write g.D.Sectors c.args.gate (1
    + body) c.args.device.now c.args.device.now c.write.new.self nothing c.args.gate (omega arith) (omega arith) (c.write.ensures.others keeps)
    (c.write.ensures.crash keeps) (c.write.ensures.time keeps) in
    let written = sectors_written g.D.Sectors (g.met.D.Sectors.only_now keeps) (c.args.gate
    + 1) body c.write.new.self c.write_sectors.new.self (c.write_sectors.ensures.others keeps) (c.write_sectors.ensures.crash keeps)
    (c.write_sectors.ensures.time keeps) in
    many_writes g.D.Sectors c.args.gate (1 + body) c.args.device.now c.write.new.self c.write_sectors.new.self gate (c.args.gate
    + 1) body (omega arith) (omega arith) written
