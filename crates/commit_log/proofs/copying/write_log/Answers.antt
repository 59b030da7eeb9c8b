use Rattle.commit_log.proofs.copying.write_log.Goals as goal
use Rattle.std.proofs.Common.{◌∙◌, arith}
use Rattle.commit_log.proofs.Calls.{leaves_no_more}
use Rattle.commit_log.proofs.CopyProtocol.{Ready, ready, being_headed, headed, Copying, records_written, stays}
use Rattle.commit_log.proofs.CopyProtocol.{head_written, settled_reads}
use Rattle.commit_log.proofs.Putting.{write_sets_are_proper}
use Rattle.commit_log.proofs.copying.write_log.Given.{Over}
use Rattle.commit_log.proofs.copying.write_log.Goals.{After-write_records, After-write}
use Rattle.commit_log.specs.Copying.{write_sets_of}

records : (g : Over) (c : After-write_records g) → g.D.Sectors.keeps_model
    → Copying g.D.Sectors (write_sets_of c.args.map.now) c.args.device.now c.write_records.new.device
records g c keeps = records_written g.D.Sectors (write_sets_of c.args.map.now) c.args.device.now c.write_records.new.device (g.met.D.Sectors.only_now keeps)
    (c.write_records.ensures.alone keeps)

settled : (g : Over) (c : After-write g) → g.D.Sectors.keeps_model → Ready g.D.Sectors (write_sets_of c.args.map.now) c.sync.new.self
settled g c keeps = ready g.D.Sectors (write_sets_of c.args.map.now) c.write_records.new.device c.sync.new.self (g.D.Sectors.size c.sync.new.self)
    (omega (arith, c.requires.room, c.write_records.ensures.calls.0, c.sync.ensures.size))
    (write_sets_are_proper c.args.map.now c.write_records.ensures.map.0 c.write_records.ensures.map.1) (c.in_ok-records.ensures.copied keeps).records
    (c.in_ok-records.ensures.copied keeps).behind (c.in_ok-sync.ensures.settles keeps)

head : (g : Over) (c : After-write g) → g.D.Sectors.keeps_model → Copying g.D.Sectors (write_sets_of c.args.map.now) c.args.device.now c.write.new.self
head g c keeps =
    let first = records_written g.D.Sectors (write_sets_of c.args.map.now) c.args.device.now c.write_records.new.device (g.met.D.Sectors.only_now keeps)
    (c.write_records.ensures.alone keeps) in
    let reads = settled_reads g.D.Sectors c.write_records.new.device c.sync.new.self (g.D.Sectors.size c.sync.new.self) (c.in_ok-sync.ensures.settles keeps) in
    let synced = stays g.D.Sectors (write_sets_of c.args.map.now) c.args.device.now c.write_records.new.device c.sync.new.self first reads
    (c.sync.ensures.crash keeps) (c.sync.ensures.time keeps) in
    head_written g.D.Sectors (write_sets_of c.args.map.now) c.args.device.now c.sync.new.self c.write.new.self (settled g c keeps) synced
    (c.write.ensures.others keeps) (c.write.ensures.crash keeps) (c.write.ensures.time keeps)

pub returns-in_err-records-clause-steps : goal.returns-in_err-records-clause-steps
returns-in_err-records-clause-steps g c keeps = (records g (goal.at.returns-in_err-records-clause-steps g c).After-write_records keeps).steps.time

pub returns-in_err-records-clause-alone : goal.returns-in_err-records-clause-alone
returns-in_err-records-clause-alone g c keeps = (records g (goal.at.returns-in_err-records-clause-alone g c).After-write_records keeps).alone

pub returns-in_err-sync-clause-steps : goal.returns-in_err-sync-clause-steps
returns-in_err-sync-clause-steps g c keeps = grind (arith, stays)

pub returns-in_err-sync-clause-alone : goal.returns-in_err-sync-clause-alone
returns-in_err-sync-clause-alone g c keeps = grind (arith, stays)

pub returns-in_err-write-clause-steps : goal.returns-in_err-write-clause-steps
returns-in_err-write-clause-steps g c keeps = (head g (goal.at.returns-in_err-write-clause-steps g c).After-write keeps).steps.time

pub returns-in_err-write-clause-alone : goal.returns-in_err-write-clause-alone
returns-in_err-write-clause-alone g c keeps = (head g (goal.at.returns-in_err-write-clause-alone g c).After-write keeps).alone

pub returns-in_err-sync-2-clause-steps : goal.returns-in_err-sync-2-clause-steps
returns-in_err-sync-2-clause-steps g c keeps =
    let so_far = head g (goal.at.returns-in_err-sync-2-clause-steps g c).After-write keeps in
    (stays g.D.Sectors (write_sets_of c.args.map.now) c.args.device.now c.write.new.self c.sync-2.new.self so_far (c.in_err-sync-2.ensures.reads keeps)
    (c.sync-2.ensures.crash keeps) (c.sync-2.ensures.time keeps)).steps.time

pub returns-in_err-sync-2-clause-alone : goal.returns-in_err-sync-2-clause-alone
returns-in_err-sync-2-clause-alone g c keeps =
    let so_far = head g (goal.at.returns-in_err-sync-2-clause-alone g c).After-write keeps in
    (stays g.D.Sectors (write_sets_of c.args.map.now) c.args.device.now c.write.new.self c.sync-2.new.self so_far (c.in_err-sync-2.ensures.reads keeps)
    (c.sync-2.ensures.crash keeps) (c.sync-2.ensures.time keeps)).alone

pub returns-clause-steps : goal.returns-clause-steps
returns-clause-steps g c keeps =
    let so_far = head g (goal.at.returns-clause-steps g c).After-write keeps in
    (leaves_no_more g.D.Sectors c.sync-2.new.self so_far.steps (c.sync-2.ensures.crash keeps) (c.sync-2.ensures.time keeps)).time

pub returns-clause-alone : goal.returns-clause-alone
returns-clause-alone g c keeps =
    let so_far = head g (goal.at.returns-clause-alone g c).After-write keeps in
    let reads = settled_reads g.D.Sectors c.write.new.self c.sync-2.new.self (g.D.Sectors.size c.sync-2.new.self) (c.in_ok-sync-2.ensures.settles keeps) in
    (stays g.D.Sectors (write_sets_of c.args.map.now) c.args.device.now c.write.new.self c.sync-2.new.self so_far reads (c.sync-2.ensures.crash keeps)
    (c.sync-2.ensures.time keeps)).alone

pub returns-clause-copied : goal.returns-clause-copied
returns-clause-copied g c keeps =
    let is = settled g (goal.at.returns-clause-copied g c).After-write keeps in
    let head = being_headed g.D.Sectors (write_sets_of c.args.map.now) c.sync.new.self c.write.new.self is (c.write.ensures.crash keeps) in
    headed g.D.Sectors (write_sets_of c.args.map.now) c.write.new.self c.sync-2.new.self (g.D.Sectors.size c.sync-2.new.self)
    (omega (arith, c.requires.room, c.write_records.ensures.calls.0, c.sync.ensures.size, c.write.ensures.counts.sectors, c.sync-2.ensures.size)) head
    (λ s read. c.in_ok-write.ensures.written keeps s read ∙ c.head_sector.ensures) (c.in_ok-sync-2.ensures.settles keeps)
