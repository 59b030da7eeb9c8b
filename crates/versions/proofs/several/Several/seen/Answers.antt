use Rattle.versions.proofs.several.Several.seen.Goals as goal
use Rattle.std.proofs.Common.{ap, ◌∙◌}
use Rattle.versions.proofs.ChainLaws.{passed_by, met}
use Rattle.versions.specs.Chains.{Stamped}

pub returns-then-version-n-clause-value : goal.returns-then-version-n-clause-value
returns-then-version-n-clause-value c = c.lend_value-then-version-n.ensures.value
    ∙ met c.args.n c.loop-version.version-iterator.iter.rest.now c.next.new.self.iter.rest.now c.in-Some.version.now c.version.inside.number _
    c.in-Some.ensures.steps (ap (λ (v : Stamped). v.number) c.version.view_is) c.if-version-n.true c.loop-version.invariant

pub loop-version-preserved : goal.loop-version-preserved
loop-version-preserved c =
    passed_by c.args.n c.loop-version.version-iterator.iter.rest.now c.next.new.self.iter.rest.now c.in-Some.version.now c.version.inside.number _
    c.in-Some.ensures.steps (ap (λ (v : Stamped). v.number) c.version.view_is) c.if-version-n.false c.loop-version.invariant
