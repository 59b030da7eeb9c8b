use Rattle.commit_log.proofs.copying.copy_into.Goals as goal
use Rattle.std.proofs.Common.{arith}
use Rattle.std.proofs.lemmas.Grind.{common_steps}
use Rattle.commit_log.proofs.CopyProtocol.{not_begun, still_first, after_reads, no_log, nothing_yet, only_read}
use Rattle.commit_log.proofs.CopyProtocol.{many_writes}
use Rattle.commit_log.specs.Copying.{copy_size, write_sets_of}
use Rattle.commit_log.specs.LogState.{OnlyWrites}

pub returns-then-not-fits-clause-crash : goal.returns-then-not-fits-clause-crash
returns-then-not-fits-clause-crash g c keeps =
    let alone : OnlyWrites g.D.Sectors 0 (copy_size c.args.map.now) c.args.device.now c.args.device.now = grind (arith, common_steps, nothing_yet) in
    let steps = not_begun g.D.Sectors (write_sets_of c.args.map.now) c.args.device.now (g.met.D.Sectors.only_now keeps c.args.device.now) in
    record {
      alone = alone;
      steps = steps;
      any_moment = λ zeros. no_log g.D.Sectors (write_sets_of c.args.map.now) c.args.device.now c.args.device.now zeros steps;
    }

pub returns-in_err-body-clause-crash : goal.returns-in_err-body-clause-crash
returns-in_err-body-clause-crash g c keeps =
    let alone : OnlyWrites g.D.Sectors 0 (copy_size c.args.map.now) c.args.device.now c.args.device.now = grind (arith, common_steps, nothing_yet) in
    let steps = not_begun g.D.Sectors (write_sets_of c.args.map.now) c.args.device.now (g.met.D.Sectors.only_now keeps c.args.device.now) in
    record {
      alone = alone;
      steps = steps;
      any_moment = λ zeros. no_log g.D.Sectors (write_sets_of c.args.map.now) c.args.device.now c.args.device.now zeros steps;
    }

pub returns-in_err-settle_zeros-clause-crash : goal.returns-in_err-settle_zeros-clause-crash
returns-in_err-settle_zeros-clause-crash g c keeps =
    let alone : OnlyWrites g.D.Sectors 0 (copy_size c.args.map.now) c.args.device.now c.settle_zeros.new.device = grind (arith, common_steps, only_read) in
    let steps = still_first g.D.Sectors (write_sets_of c.args.map.now) c.args.device.now c.settle_zeros.new.device
    (c.settle_zeros.ensures.only_reads keeps).time in
    record {
      alone = alone;
      steps = steps;
      any_moment = λ zeros. no_log g.D.Sectors (write_sets_of c.args.map.now) c.args.device.now c.settle_zeros.new.device zeros steps;
    }

pub returns-in-Ok-clause-crash : goal.returns-in-Ok-clause-crash
returns-in-Ok-clause-crash g c keeps =
    let alone : OnlyWrites g.D.Sectors 0 (copy_size c.args.map.now) c.args.device.now c.write_log.new.device = grind (arith, only_read, many_writes) in
    let steps = after_reads g.D.Sectors (write_sets_of c.args.map.now) c.args.device.now c.settle_zeros.new.device c.write_log.new.device
    (c.settle_zeros.ensures.only_reads keeps).time (c.settle_zeros.ensures.only_reads keeps).left (c.write_log.ensures.steps keeps) in
    record {
      alone = alone;
      steps = steps;
      any_moment = λ zeros. no_log g.D.Sectors (write_sets_of c.args.map.now) c.args.device.now c.write_log.new.device zeros steps;
    }

pub returns-clause-crash : goal.returns-clause-crash
returns-clause-crash g c keeps =
    let alone : OnlyWrites g.D.Sectors 0 (copy_size c.args.map.now) c.args.device.now c.write_log.new.device =
    grind (arith, common_steps, only_read, many_writes) in
    let steps = after_reads g.D.Sectors (write_sets_of c.args.map.now) c.args.device.now c.settle_zeros.new.device c.write_log.new.device
    (c.settle_zeros.ensures.only_reads keeps).time (c.settle_zeros.ensures.only_reads keeps).left (c.write_log.ensures.steps keeps) in
    record {
      alone = alone;
      steps = steps;
      any_moment = λ zeros. no_log g.D.Sectors (write_sets_of c.args.map.now) c.args.device.now c.write_log.new.device zeros steps;
    }
