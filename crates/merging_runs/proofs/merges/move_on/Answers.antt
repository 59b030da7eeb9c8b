use Rattle.merging_runs.proofs.merges.move_on.Goals as goal
use Rattle.std.proofs.Common.{◌≡◌, ◌+◌, ◌-◌, [], ◌∷◌, ◌∙◌, ap, subst, arith, refl}
use Rattle.std.proofs.lemmas.Bool.Decides.{nat_tests}
use Rattle.std.specs.Prelude.{◌&&◌, nat_le}
use Rattle.merging_runs.proofs.Moves.{one_more}
use Rattle.merging_runs.specs.MadeRuns.IsMade.{Moved, Unmoved}
use Rattle.merging_runs.specs.RunSizes.{IsMerged}

pub moves-init : goal.moves-init
moves-init g c = record {
  agree = g.met.R.Run.same (λ b. nat_le c.args.oldest b && g.R.Run.asks c.args.active.now b) (c.args.run.now ∷ []);
  made = Unmoved;
  rest = omega arith;
  merged = record { last = refl; whole = omega arith; room = omega arith; moved = omega arith; slowly = omega arith };
  kept = record { last = refl; rises = omega arith; holds = λ h. h };
}

pub moves-preserved : goal.moves-preserved
moves-preserved g c =
    let is = c.moves.invariant in
    let moved = c.move_one.ensures in
    let one = moved.merged in
    let done = c.args.most - c.moves.rest in
    let all : done + 1 ≡ c.args.most - (c.moves.rest - 1) = omega (arith, is.rest, c.moves-test.true) in
    let more = one_more g.R.Run.each done in
    record {
      agree = g.met.R.Run.through (λ b. nat_le c.args.oldest b && g.R.Run.asks c.args.active.now b) (c.move_one.new.self ∷ [])
          (c.moves.run ∷ []) (c.args.run.now ∷ []) moved.agree is.agree;
      made = Moved c.moves.run c.move_one.new.self is.made moved.makes;
      rest = omega (arith, is.rest, c.moves-test.true);
      merged = subst (λ n. IsMerged g.R.Run.each n (g.R.Run.sizes c.args.run.now) (g.R.Run.sizes c.move_one.new.self)) all (record {
        last = one.last ∙ is.merged.last;
        whole = omega (arith, one.whole, is.merged.whole);
        room = omega (arith, one.room, is.merged.room);
        moved = omega (arith, one.moved, is.merged.moved);
        slowly = omega (arith, one.slowly, is.merged.slowly, more);
      });
      kept = record { last = one.last ∙ is.kept.last; rises = omega (arith, moved.from, is.kept.rises); holds = λ h. moved.holds (is.kept.holds h) };
    }

pub returns-then-is_at_rest-clause-moved : goal.returns-then-is_at_rest-clause-moved
returns-then-is_at_rest-clause-moved g c =
    let size = g.R.Run.sizes in
    let released = c.release.ensures in
    let merged = c.moves.invariant.merged in
    let room : (size c.release.new.self).room ≡ (size c.moves.run).room - 4096 = ap (λ r. r.room) released.sizes in
    record {
      made = Moved c.moves.run c.release.new.self c.moves.invariant.made (released.makes c.args.active.now c.args.oldest);
      released = grind (arith, nat_tests, room, merged.room);
    }

pub returns-then-is_at_rest-clause-kept : goal.returns-then-is_at_rest-clause-kept
returns-then-is_at_rest-clause-kept g c =
    let released = c.release.ensures in
    let kept = c.moves.invariant.kept in
    record {
      last = ap (λ r. r.last) released.sizes ∙ kept.last;
      rises = omega (arith, released.from, kept.rises);
      holds = λ h. released.holds c.args.active.now (kept.holds h);
    }
