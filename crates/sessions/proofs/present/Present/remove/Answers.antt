use Rattle.sessions.proofs.present.Present.remove.Goals as goal
use Rattle.std.proofs.Common.{ℕ, List, ap, remove, sym, subst, ◌∙◌}
use Rattle.sessions.proofs.Places.{IsRising, removed_rising}
use Rattle.sessions.specs.SessionStreams.{SessionState}

pub invariant_of-self : goal.invariant_of-self
invariant_of-self c =
    let left = c.remove.ensures.items ∙ ap (λ (l : List (ℕ × SessionState)). remove l c.in-Ok.place) c.self.view_is ∙ c.in-Ok.ensures.found.removed in
    subst IsRising (sym left) (removed_rising c.args.s c.args.self.now (subst IsRising c.self.view_is c.self.invariant))
