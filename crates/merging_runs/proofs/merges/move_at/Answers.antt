use Rattle.merging_runs.proofs.merges.move_at.Goals as goal
use Rattle.std.proofs.Common.{◌≡◌, ◌≤◌, ◌<◌, ◌+◌, ◌-◌, ◌*◌, ℕ, length, map, ap, sym, ◌∙◌, arith, refl, rules, inl}
use Rattle.std.proofs.Common.{inr}
use Rattle.std.proofs.lemmas.Bool.Decides.{nat_tests}
use Rattle.std.proofs.lemmas.Option.{slice_get_read}
use Rattle.std.specs.Prelude.{◌&&◌, nat_le}
use Rattle.merging_runs.proofs.KeptRuns.{other_sound}
use Rattle.merging_runs.proofs.MadeRuns.{one_of}
use Rattle.merging_runs.proofs.Moves.{as_slow}
use Rattle.merging_runs.proofs.RunSteps.{as_long, left_changed, lasts_changed, no_longer_changed, none_left}
use Rattle.merging_runs.proofs.RunSteps.{other_agrees}
use Rattle.merging_runs.proofs.RunSteps.{passed_left, same_run}
use Rattle.merging_runs.specs.MadeRuns.IsMade.{Unmoved}

pub returns : goal.returns
returns g c =
    let runs = c.args.runs.now in
    let o = c.args.oldest in
    let begins = λ (b : ℕ). nat_le o b && g.R.Run.asks c.args.active.now b in
    let i = c.args.place in
    let size = g.R.Run.sizes in
    let within : i < length runs.items = omega (arith, c.if-place-len.false, c.len.ensures, runs.ok.0) in
    let was = c.index_mut.result.now in
    let at = c.index_mut.ensures.value in
    let new = c.move_on.new.run in
    let merged = c.move_on.ensures.merged in
    let same = ap (λ r. (size r).last) (same_run runs.items i c.index.result.now was within c.index.ensures at) in
    let late : o < (size was).last = omega (arith, same, c.last.ensures, c.if-last-oldest.false) in
    let left = left_changed size o runs.items i was new within at late merged.last in
    record {
      agree = other_agrees (g.R.Run.agree begins) (g.met.R.Run.between begins) runs.items i was new within at c.move_on.ensures.agree;
      moved = inr (was, new, slice_get_read runs.items (length runs.items) i was refl within at, c.move_on.ensures.moved, refl);
      most = c.move_on.ensures.most;
      len = search rules;
      merged = record {
        lasts = lasts_changed size runs.items i was new within at merged.last;
        wholes = no_longer_changed size runs.items i was new within at merged.whole;
        moved = omega (arith, left, merged.moved);
        slowly = as_slow _ _ (size was).left (size new).left (g.R.Run.each * (c.args.most - c.move_on.result)) left merged.slowly;
      };
      ended = λ some behind. none_left size o runs.items i (i + 1) new (omega arith) (c.move_on.ensures.ended some) behind;
      kept = other_sound (g.R.Run.holds c.args.active.now) g.R.Run.from size runs.items i was new within at c.move_on.ensures.kept;
    }

pub returns-then-last-oldest-clause-ended : goal.returns-then-last-oldest-clause-ended
returns-then-last-oldest-clause-ended g c =
    λ some behind. passed_left g.R.Run.sizes c.args.oldest c.args.runs.now.items c.args.place (c.args.place
    + 1) c.index.result.now (omega arith) c.index.ensures (omega (arith, c.last.ensures, c.if-last-oldest.true)) behind

pub returns-then-place-len-clause-merged : goal.returns-then-place-len-clause-merged
returns-then-place-len-clause-merged g c =
    record { lasts = refl; wholes = as_long (map g.R.Run.sizes c.args.runs.now.items); moved = omega arith; slowly = omega arith }

pub returns-then-last-oldest-clause-merged : goal.returns-then-last-oldest-clause-merged
returns-then-last-oldest-clause-merged g c =
    record { lasts = refl; wholes = as_long (map g.R.Run.sizes c.args.runs.now.items); moved = omega arith; slowly = omega arith }

pub returns-then-last-oldest-clause-moved : goal.returns-then-last-oldest-clause-moved
returns-then-last-oldest-clause-moved g c =
    let runs = c.args.runs.now in
    let i = c.args.place in
    let size = g.R.Run.sizes in
    let run = c.index.result.now in
    let within : i < length runs.items = omega (arith, c.if-place-len.false, c.len.ensures, runs.ok.0) in
    let there = slice_get_read runs.items (length runs.items) i run refl within c.index.ensures in
    inl (
      refl,
      λ was at.
          let same : was ≡ run = one_of run was (sym there ∙ at) in
          let old : (size was).last ≤ c.args.oldest = omega (arith, ap (λ r. (size r).last) same, c.last.ensures, c.if-last-oldest.true) in
          record { made = Unmoved; released = grind (arith, nat_tests, old) },
    )
