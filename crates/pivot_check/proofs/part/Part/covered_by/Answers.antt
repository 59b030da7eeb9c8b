use Rattle.pivot_check.proofs.part.Part.covered_by.Goals as goal
use Rattle.std.proofs.Common.{arith}
use Rattle.std.proofs.lemmas.List.{drop-drop, take_rest}

pub returns-clause-covered : goal.returns-clause-covered
returns-clause-covered c = λ t.
    let start = c.args.self.now.start in
    let ps = c.args.self.now.written.items in
    grind (arith, take_rest ps start, c.covered-span.ensures.covered t, drop-drop c.covered-span.result.first start ps)
