use Rattle.sessions.proofs.present.Present.insert.Goals as goal
use Rattle.std.proofs.Common.{ℕ, List, ap, set, subst, ◌∙◌}
use Rattle.sessions.proofs.Places.{IsRising, put_rising, inserted_or_not}
use Rattle.sessions.specs.SessionStreams.{SessionState}

pub invariant_of-self : goal.invariant_of-self
invariant_of-self c =
    put_rising c.args.s c.args.self.now _ (subst IsRising c.self.view_is c.self.invariant) c.args.session
    (ap (λ (l : List (ℕ × SessionState)). set l c.in-Ok.place (c.args.s, c.args.session)) c.self.view_is ∙ c.in-Ok.ensures.found.inserted c.args.session)

pub invariant_of-self-in-Err : goal.invariant_of-self-in-Err
invariant_of-self-in-Err c =
    inserted_or_not c.args.s _ c.args.self.now c.self.inside.rows.items c.insert.new.self.items c.in-Err.place c.args.session c.self.view_is
    (subst IsRising c.self.view_is c.self.invariant) c.in-Err.ensures.absent c.insert.ensures.items
