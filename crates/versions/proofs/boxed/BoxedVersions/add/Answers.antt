use Rattle.versions.proofs.boxed.BoxedVersions.add.Goals as goal
use Rattle.versions.proofs.boxed.BoxedVersions.add.Goals.{then-shows, else-shows}
use Rattle.std.proofs.Common.{◌≡◌, false, arith, ap, sym, ◌∙◌}
use Rattle.versions.proofs.Deletions.{hides_longer, hides_nothing}
use Rattle.versions.specs.Chains.{ChainValue, Stamped, shows}

pub invariant_of-self : goal.invariant_of-self
invariant_of-self c =
    let same = ap (λ (v : Stamped). v.number) c.version.view_is in
    let newest = same ∙ sym (ap (λ (d : ChainValue). d.newest.number) c.add.ensures) in
    elim c.if-shows.branch [
      | then-shows w ↦
          (newest, hides_nothing _ c.as_mut.result.now _ c.args.version c.add.ensures (ap (λ i. i.hides_from) w.self-inside-is ∙ same))
      | else-shows w ↦
          let still = c.as_mut.ensures.value ∙ ap (λ i. i.several.value) w.self-inside-is in
          let deletion : shows c.self.inside.several.value ≡ false = grind (arith, w.if-shows.ensures, c.as_ref.ensures) in (
            newest,
            hides_longer _ _ c.self.inside.several.value c.as_mut.result.now _ c.args.version c.add.ensures still
                (ap (λ i. i.hides_from) w.self-inside-is) deletion c.self.invariant.1,
          )
    ]
