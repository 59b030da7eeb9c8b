use Rattle.sessions.proofs.present.Present.place.Goals as goal
use Rattle.std.proofs.Common.{subst, ◌∙◌}
use Rattle.sessions.proofs.Places.{IsRising, found_last}

pub returns-then-row-s-clause-found : goal.returns-then-row-s-clause-found
returns-then-row-s-clause-found c =
    let there = c.in-Some.ensures.lookup.3 in
    found_last c.args.s c.args.self.now c.deref.result.now c.get-last.result c.in-Some.row.now (c.deref.ensures.value
    ∙ c.self.view_is) (subst IsRising c.self.view_is c.self.invariant) there.0 there.1 c.if-row-s.true
