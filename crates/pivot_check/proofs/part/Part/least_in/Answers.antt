use Rattle.pivot_check.proofs.part.Part.least_in.Goals as goal
use Rattle.std.proofs.Common.{◌*◌}
use Rattle.pivot_check.proofs.Passing.{passed_over, kept_part}
use Rattle.pivot_check.specs.Postings.{is_asked, between}

pub returns-then-not-can_improve_in : goal.returns-then-not-can_improve_in
returns-then-not-can_improve_in c =
    let ps = c.args.self.now.written.items in
    let span = c.args.span in
    passed_over c.args.found c.args.begin c.args.flagged (is_asked c.args.begin c.args.flagged) (λ p e. e) (between span.first span.end ps)
    (kept_part c.args.found c.args.begin c.args.flagged (64 * c.args.block) 64 span.first span.end ps c.requires.block c.requires.order c.requires.block_end
    (c.can_improve_in.ensures c.if-not-can_improve_in.true))
