use Rattle.last_readers.proofs.steps.Steps.renumber.Goals as goal
use Rattle.std.proofs.Common.{ap, map, ◌∙◌}
use Rattle.std.specs.Prelude.{reverse}
use Rattle.last_readers.proofs.Falling.{reverse_map}
use Rattle.last_readers.specs.Steps.{StepsValue, renumbered}

pub returns : goal.returns
returns c = ap reverse c.renumber.ensures ∙ reverse_map (renumbered c.args.number) c.self.inside.falling.items
    ∙ ap (λ (s : StepsValue). map (renumbered c.args.number) s.items) c.self.view_is
