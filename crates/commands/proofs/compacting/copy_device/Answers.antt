use Rattle.commands.proofs.compacting.copy_device.Goals as goal
use Rattle.std.proofs.Common.{◌≡◌, arith, ap, refl, subst, Ok, Err}
use Rattle.std.proofs.lemmas.Result.{err_from_is_err_and}
use Rattle.commit_log.specs.declared.faults.LogFault.TheVariants.{Full}
use Rattle.commands.specs.LogCounts.{counts_line}

pub returns-in_err-counts-clause-copies : goal.returns-in_err-counts-clause-copies
returns-in_err-counts-clause-copies g c room =
    let p = err_from_is_err_and c.from_residual.result c.from_residual.ensures.1 in
    let not_full : c.in_err-counts.field-0.0 ≡ Full → ⊥ = λ is. let few = c.in_err-counts.ensures.full.0 (ap Err is) in omega (arith, few, room) in (
      Err p.0,
      c.copy_counts.new.device,
      (
        c.in_err-counts.field-0.0,
        record {
          fault = c.in_err-counts.ensures.calls.1;
          alone = (c.in_err-counts.ensures.errors, not_full);
          copied = λ keeps. tt;
        },
        p.2,
      ),
      (p.1, refl),
    )

pub returns-in_err-print_counts-clause-copies : goal.returns-in_err-print_counts-clause-copies
returns-in_err-print_counts-clause-copies g c room =
    let p = err_from_is_err_and c.from_residual-in_err-print_counts.result c.from_residual-in_err-print_counts.ensures.1 in
    let printed = subst (λ k. g.O.Lines.writes c.args.out.now (counts_line k) (Err c.in_err-print_counts.field-0.0) c.print_counts.new.out)
    c.in_ok-counts.ensures.counted c.in_err-print_counts.ensures in (
      Ok tt,
      c.copy_counts.new.device,
      record {
        fault = c.in_ok-counts.ensures.calls.1;
        alone = tt;
        copied = c.in_ok-counts.ensures.copied;
      },
      (rw p.1 (c.in_err-print_counts.field-0.0, printed, p.2), refl),
    )

pub returns-clause-copies : goal.returns-clause-copies
returns-clause-copies g c room =
    let printed = subst (λ k. g.O.Lines.writes c.args.out.now (counts_line k) (Ok c.in_ok-print_counts.field-0) c.print_counts.new.out)
    c.in_ok-counts.ensures.counted c.in_ok-print_counts.ensures in (
      Ok tt,
      c.copy_counts.new.device,
      record {
        fault = c.in_ok-counts.ensures.calls.1;
        alone = tt;
        copied = c.in_ok-counts.ensures.copied;
      },
      (printed, refl),
    )
