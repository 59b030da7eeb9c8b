use Rattle.sessions.proofs.present.Present.search.Goals as goal
use Rattle.std.proofs.Common.{subst, ◌∙◌, nat_cmp, rules}
use Rattle.std.proofs.lemmas.Fn.{always_returns_same}
use Rattle.sessions.proofs.Places.{IsRising, searched}

-- the closure compares a row's number with the number
pub returns : goal.returns
returns c =
    let facts = c.binary_search_by.ensures in
    let by_number = facts.position (λ e. nat_cmp e.0 c.args.s) (always_returns_same _ _ _ (λ a r f called. search rules)) in
    searched c.args.s c.args.self.now c.deref.result.now (c.deref.ensures.value
    ∙ c.self.view_is) (subst IsRising c.self.view_is c.self.invariant) c.binary_search_by.result facts.bound by_number
