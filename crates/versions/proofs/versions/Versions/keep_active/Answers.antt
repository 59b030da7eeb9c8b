use Rattle.versions.proofs.versions.Versions.keep_active.Goals as goal
use Rattle.std.proofs.Common.{ap, arith, subst, sym, ◌∙◌}
use Rattle.std.proofs.lemmas.Grind.{common_steps}
use Rattle.versions.proofs.Histories.{stands-holding}
use Rattle.versions.proofs.Pages.{held-known}
use Rattle.versions.specs.Meaning.{is_known}
use Rattle.versions.specs.StandsFor.{AreHeldWhereKnown, StandWhereAmong}

pub returns-clause-kept : goal.returns-clause-kept
returns-clause-kept c = grind (arith, common_steps)

pub returns-clause-held : goal.returns-clause-held
returns-clause-held c = λ few n t known.
    held-known c.args.begins.now c.self.inside.chains c.hold.new.chains n c.self.inside.last (c.hold.ensures.held few) c.self.invariant.4 t
    (ap (is_known n) c.self.view_is ∙ known)

pub returns-clause-stands : goal.returns-clause-stands
returns-clause-stands c = λ few.
    let bs = c.args.begins.now in
    let is = returns-clause-kept c in
    subst (StandWhereAmong bs c.args.self.now) (sym is)
    (stands-holding bs c.hold.new.chains.held c.args.self.now (subst (AreHeldWhereKnown bs c.args.self.now) is (returns-clause-held c few)))
