use Rattle.last_readers.proofs.merging.take_greatest.Goals as goal
use Rattle.last_readers.proofs.MergeLaws.{joined_swapped}

pub returns-in-Less-clause-joined : goal.returns-in-Less-clause-joined
returns-in-Less-clause-joined c =
    let one = c.take_one-in-Less in
    let first = c.args.first.now.items in
    joined_swapped c.args.oldest first first c.args.second.now.items one.new.first.items one.result
    one.ensures.joined
