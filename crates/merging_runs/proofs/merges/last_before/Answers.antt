use Rattle.merging_runs.proofs.merges.last_before.Goals as goal
use Rattle.std.proofs.Common.{◌≡◌, ◌-◌, suc, sym, ap, ◌∙◌, map, take, arith}
use Rattle.merging_runs.proofs.RunSteps.{last_taken}
use Rattle.merging_runs.specs.RunSizes.{last_after}

pub returns : goal.returns
returns g c =
    let runs = c.args.runs.now in
    let some : suc (c.args.place - 1) ≡ c.args.place = omega (arith, c.if-place-eq0.false) in
    c.last.ensures ∙ sym (last_taken g.R.Run.sizes runs (c.args.place - 1) c.index-runs-place.result 0 (omega (arith, some, c.requires)) c.index-runs-place.is)
    ∙ ap (λ n. last_after 0 (take n (map g.R.Run.sizes runs))) some
