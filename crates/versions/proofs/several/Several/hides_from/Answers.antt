use Rattle.versions.proofs.several.Several.hides_from.Goals as goal
use Rattle.std.proofs.Common.{◌≡◌, None, ap, arith}
use Rattle.versions.proofs.Deletions.{hides_deletion}
use Rattle.versions.specs.Chains.{Stamped}

pub loop-version-preserved : goal.loop-version-preserved
loop-version-preserved c =
    let none : c.in-Some.version.now.value ≡ None = grind (arith, ap (λ (v : Stamped). v.value) c.version.view_is, c.if-is_some.ensures) in
    hides_deletion c.loop-version.from c.loop-version.version-iterator.iter.rest.now c.next.new.self.iter.rest.now c.in-Some.version.now
    c.version.inside.number c.args.self.now
    c.in-Some.ensures.steps (ap (λ (v : Stamped). v.number) c.version.view_is) none c.loop-version.invariant
