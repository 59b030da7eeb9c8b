use Rattle.pivot_check.proofs.part.Part.scan_span.Goals as goal
use Rattle.std.proofs.Common.{arith}
use Rattle.pivot_check.proofs.Scanning.{scanned_before, scanned_anew, scanned_further, scanned_joined}
use Rattle.pivot_check.specs.Postings.{between}

pub returns-then-span-seen-clause-looked : goal.returns-then-span-seen-clause-looked
returns-then-span-seen-clause-looked c =
    assumption (scanned_anew c.args.scan.found c.least_between-found.result c.args.begin c.args.flagged
    (between c.args.span.first c.args.span.end c.args.self.now.written.items) c.least_between-found.ensures)

pub returns-then-span-seen-2-clause-found : goal.returns-then-span-seen-2-clause-found
returns-then-span-seen-2-clause-found c =
    scanned_before c.args.scan.found c.args.begin c.args.flagged c.args.scan.seen.first c.args.scan.seen.end c.args.span.first c.args.span.end
    c.args.self.now.written.items
    (omega arith) c.requires.order (omega arith) c.requires.looked.kept

pub returns-clause-found : goal.returns-clause-found
returns-clause-found c =
    scanned_further c.args.scan.found c.least_between-found-2.result c.args.begin c.args.flagged c.args.self.now.written.items c.args.scan.seen.first
    c.args.span.first c.args.scan.seen.end c.args.span.end
    (omega arith) (omega arith) (omega arith) c.requires.looked.kept c.least_between-found-2.ensures

pub returns-clause-looked : goal.returns-clause-looked
returns-clause-looked c = record {
  order = omega (arith, c.requires.looked.order);
  within = c.requires.within;
  kept = scanned_joined c.args.scan.found c.least_between-found-2.result c.args.begin c.args.flagged c.args.self.now.written.items c.args.scan.seen.first
      c.args.scan.seen.end c.args.span.end
      c.requires.looked.order (omega arith) c.requires.looked.kept c.least_between-found-2.ensures;
}
