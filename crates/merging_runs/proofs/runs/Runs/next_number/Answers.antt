use Rattle.merging_runs.proofs.runs.Runs.next_number.Goals as goal
use Rattle.std.proofs.Common.{◌≡◌, List, ap, subst, ◌∙◌}
use Rattle.std.specs.List.{list_any}
use Rattle.std.specs.Prelude.{◌||◌}
use Rattle.merging_runs.specs.Next.{IsNext}
use Rattle.merging_runs.specs.Value.{RunsValue}

pub returns : goal.returns
returns g c p is =
    let same : c.as_slice.result.now ≡ c.args.self.now.runs = c.as_slice.ensures.value ∙ ap (λ (v : RunsValue g.row.R.Denot). v.runs) c.self.view_is in
    subst (λ (rs : List g.row.R.Denot). IsNext (λ k. p k || list_any (λ r. g.R.Run.has r k) rs) c.args.n c.next_in.result) same (c.next_in.ensures p is)
