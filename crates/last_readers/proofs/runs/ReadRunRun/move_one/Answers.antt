use Rattle.last_readers.proofs.runs.ReadRunRun.move_one.Goals as goal
use Rattle.std.proofs.Common.{true}
use Rattle.std.proofs.lemmas.Bool.{and_parts, leb-true}
use Rattle.last_readers.proofs.Cuts.{cut_either, cut_later_same}

pub returns-clause-agree : goal.returns-clause-agree
returns-clause-agree c =
    λ b asks k.
    let low = leb-true c.args.oldest b (and_parts _ true asks).0 in
    cut_either b _ _ 0 (cut_later_same c.args.oldest b _ _ low (c.move_greatest.ensures.moved.same k))
