use Rattle.merging_runs.proofs.merges.open_last.Goals as goal
use Rattle.std.proofs.Common.{◌≡◌, ◌+◌, ◌-◌, sym, ◌∙◌, take, drop, map, arith}
use Rattle.std.specs.Vec.{vec_len}
use Rattle.merging_runs.proofs.RunSteps.{none_alike, unlike_from}
use Rattle.merging_runs.specs.RunSizes.{become_one, has_alike, last_after}

pub loop-after-init : goal.loop-after-init
loop-after-init g c =
    let sizes = map g.R.Run.sizes c.args.runs.now.items in
    let at = vec_len c.args.runs.now - 1 in
    grind (
      arith,
      none_alike g.R.Run.sizes (become_one (g.R.Run.begin_numbers c.args.active.now) c.args.oldest) (last_after 0 (take at sizes))
          c.args.runs.now.items at,
    )

pub returns-then-open_at-clause-kept : goal.returns-then-open_at-clause-kept
returns-then-open_at-clause-kept g c = rw c.loop-after.invariant.runs at c.open_at.ensures.kept

pub loop-after-preserved : goal.loop-after-preserved
loop-after-preserved g c =
    let runs = c.args.runs.now in
    let after = c.loop-after.after in
    let is = c.loop-after.invariant in
    let alike = become_one (g.R.Run.begin_numbers c.args.active.now) c.args.oldest in
    let same : vec_len c.loop-after.runs ≡ vec_len runs = (λ k. vec_len (is.runs k)) in
    let at : c.len.result - after - 1 ≡ vec_len runs - (after + 1) = omega (arith, c.len.ensures, same) in
    let here = (λ k. has_alike alike (last_after 0 (take (sym at k) (map g.R.Run.sizes (sym is.runs k).items)))
    (take 2 (drop (sym at k) (map g.R.Run.sizes (sym is.runs k).items)))) ∙ c.open_at.ensures.none c.if-open_at.false in
    let behind = unlike_from alike (map g.R.Run.sizes runs.items) (vec_len runs - after) (vec_len runs - (after + 1)) in
    grind (arith, behind, here)
