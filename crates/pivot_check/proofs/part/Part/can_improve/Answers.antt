use Rattle.pivot_check.proofs.part.Part.can_improve.Goals as goal
use Rattle.pivot_check.proofs.Passing.{kept, upto_last}

pub returns : goal.returns
returns c = λ none.
    let ps = c.args.self.now.written.items in
    kept c.args.found c.args.self.now.bound.last c.most_below.result c.args.begin c.args.flagged c.args.self.now.bound c.most_below.ensures
    (c.allows.ensures.none none) ps (upto_last c.args.self.now.bound ps c.args.self.now.bounded) c.args.self.now.bounded
