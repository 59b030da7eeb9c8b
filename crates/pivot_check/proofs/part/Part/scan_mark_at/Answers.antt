use Rattle.pivot_check.proofs.part.Part.scan_mark_at.Goals as goal
use Rattle.std.proofs.Common.{drop, arith}
use Rattle.std.proofs.lemmas.Bool.Decides.{nat_tests}
use Rattle.pivot_check.proofs.PlacedMarks.{asked_at, asked_past}
use Rattle.pivot_check.specs.Agreeing.{lesser_none}

pub returns-in-Some-clause-found : goal.returns-in-Some-clause-found
returns-in-Some-clause-found c =
    grind (
      arith,
      nat_tests,
      c.lend.ensures,
      asked_at c.args.marks.now c.args.place c.in-Some.mark.now c.args.begin c.args.flagged (drop c.args.self.now.start c.args.self.now.written.items),
    )

pub returns-in-None-clause-found : goal.returns-in-None-clause-found
returns-in-None-clause-found c =
    grind (
      arith,
      nat_tests,
      lesser_none,
      asked_past c.args.marks.now c.args.place c.args.begin c.args.flagged (drop c.args.self.now.start c.args.self.now.written.items),
    )
