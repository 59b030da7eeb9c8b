use Rattle.commands.proofs.data.check_device.Goals as goal
use Rattle.std.proofs.Common.{refl, subst, Ok, Err}
use Rattle.commands.proofs.Printed.{called}
use Rattle.commands.specs.Checking.{Counting}
use Rattle.commands.specs.LogCounts.{counts_line}
use Rattle.commands.specs.declared.faults.Fault.TheVariants.{File}

pub returns-in-Ok-clause-checks : goal.returns-in-Ok-clause-checks
returns-in-Ok-clause-checks g c =
    let counts = subst (λ r. Counting g.D.Sectors c.args.device r c.count_device-counted.result.1) c.in-Ok.is c.count_device-counted.ensures in (
      Ok c.in-Ok.counts,
      c.count_device-counted.result.1,
      counts,
      (
        called File (g.O.Lines.writes c.args.out.now (counts_line c.in-Ok.counts)) c.print_counts.result c.map_err.result c.print_counts.new.out
            c.print_counts.ensures c.map_err.ensures.cases,
        refl,
      ),
    )

pub returns-in-Err-clause-checks : goal.returns-in-Err-clause-checks
returns-in-Err-clause-checks g c =
    let counts = subst (λ r. Counting g.D.Sectors c.args.device r c.count_device-counted.result.1) c.in-Err.is c.count_device-counted.ensures in
    (Err c.from.result, c.count_device-counted.result.1, (c.in-Err.fault, counts, c.from.ensures), (refl, refl))
