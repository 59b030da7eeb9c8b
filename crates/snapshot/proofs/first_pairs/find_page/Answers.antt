use Rattle.snapshot.proofs.first_pairs.find_page.Goals as goal
use Rattle.std.proofs.Common.{◌∙◌, arith, sym}
use Rattle.std.proofs.lemmas.Grind.{common_steps}
use Rattle.model.specs.KeyBytes.{pair_bytes}
use Rattle.snapshot.proofs.Pages.{one_more, one_more_in_bounds, short_page, taken_same}
use Rattle.snapshot.specs.Ahead.{merged_pairs}

pub returns-in_default-clause-len : goal.returns-in_default-clause-len
returns-in_default-clause-len c = grind (arith, common_steps, short_page)

pub returns-in_default-clause-end : goal.returns-in_default-clause-end
returns-in_default-clause-end c = grind (arith, common_steps, short_page)

pub returns-in_default-clause-in_bounds : goal.returns-in_default-clause-in_bounds
returns-in_default-clause-in_bounds c = grind (arith, common_steps, taken_same)

pub loop-k-preserved : goal.loop-k-preserved
loop-k-preserved c =
    let more = one_more (merged_pairs c.args.pairs) c.loop-k.len (pair_bytes (c.in-Some.key, c.in-Some._value)) (merged_pairs c.next.new.self)
    (c.loop-k.invariant.gone ∙ c.in-Some.ensures.steps) in
    grind (arith, common_steps, one_more_in_bounds)

pub returns-in_default-clause-counts : goal.returns-in_default-clause-counts
returns-in_default-clause-counts c =
    record { rest = c.next.new.self; left = grind (arith, common_steps); goes = grind (arith, common_steps); is = c.pages_looked_at.ensures }

pub returns-clause-counts : goal.returns-clause-counts
returns-clause-counts c =
    record { rest = c.loop-k.rest; left = sym c.loop-k.invariant.gone; goes = c.loop-k.invariant.goes; is = c.pages_looked_at-2.ensures }
