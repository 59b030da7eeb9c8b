use Rattle.pivot_check.proofs.part.Part.least_between.Goals as goal
use Rattle.std.proofs.Common.{◌≡◌, ◌*◌, ◌+◌, arith}
use Rattle.std.specs.Prelude.{max, min}
use Rattle.pivot_check.proofs.Passing.{split_at}
use Rattle.pivot_check.specs.Agreeing.{lesser_assoc, least-append}
use Rattle.pivot_check.specs.Postings.{is_asked, between}

pub loop-block-preserved : goal.loop-block-preserved
loop-block-preserved c =
    let end = c.args.span.end in
    let block = c.loop-block.block in
    let ps = c.args.self.now.written.items in
    let at = max c.args.span.first (64 * block) in
    let next = max c.args.span.first (64 * (block + 1)) in
    let stop : min end (64 * block + 64) ≡ min end next = omega arith in
    let whole = least-append (is_asked c.args.begin c.args.flagged) (between at (min end next) ps) (between next end ps) in
    grind (arith, lesser_assoc, split_at at next end ps (omega arith) (omega arith), c.max.ensures, c.min.ensures)
