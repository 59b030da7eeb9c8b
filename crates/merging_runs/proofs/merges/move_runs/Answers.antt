use Rattle.merging_runs.proofs.merges.move_runs.Goals as goal
use Rattle.std.proofs.Common.{◌≡◌, ◌≤◌, ◌+◌, ◌-◌, suc, length, refl, ap, sym, subst, ◌∙◌, drop, map, arith, inl, inr}
use Rattle.std.proofs.lemmas.Bool.{cases_lt}
use Rattle.std.specs.Prelude.{◌&&◌, min, nat_le}
use Rattle.std.specs.Vec.{vec_len}
use Rattle.merging_runs.proofs.MadeRuns.{AreEachFrom, all_released, all_made, none_each, one_each}
use Rattle.merging_runs.proofs.Moves.{slower, slowest}
use Rattle.merging_runs.proofs.RunSteps.{as_long, no_longer_through, past_left}
use Rattle.merging_runs.specs.MadeRuns.{ChangesOne, IsMovedOn}
use Rattle.merging_runs.specs.RunSizes.{left_above}

pub loop-after-init : goal.loop-after-init
loop-after-init g c =
    let len = c.args.runs.now.ok.0 in
    record {
      agree = g.met.R.Run.same (λ b. nat_le c.args.oldest b && g.R.Run.asks c.args.active.now b) c.args.runs.now.items;
      each = none_each (IsMovedOn (g.R.Run.makes c.args.active.now c.args.oldest) g.R.Run.sizes c.args.oldest) (vec_len c.args.runs.now - 0)
          c.args.runs.now.items (omega (arith, len));
      len = refl;
      most = omega arith;
      merged = record { lasts = refl; wholes = as_long (map g.R.Run.sizes c.args.runs.now.items); moved = omega arith; slowly = omega arith };
      ended = λ some. past_left g.R.Run.sizes c.args.oldest c.args.runs.now.items (vec_len c.args.runs.now - 0) (omega (arith, len));
      kept = λ last h. h;
    }

pub loop-after-preserved : goal.loop-after-preserved
loop-after-preserved g c =
    let o = c.args.oldest in
    let runs = c.args.runs.now in
    let after = c.loop-after.after in
    let is = c.loop-after.invariant in
    let moved = c.move_at-rest.ensures in
    let len = c.len.ensures in
    let test = c.loop-after-test.true in
    let end = c.len-after-end.ensures in
    let at : vec_len runs - (after + 1) ≡ c.len.result - after - 1 = omega (arith, len, is.len) in
    let becomes = IsMovedOn (g.R.Run.makes c.args.active.now o) g.R.Run.sizes o in
    let last : vec_len runs - after ≡ suc (vec_len runs - (after + 1)) = omega (arith, test, end) in
    let behind : c.len.result - after - 1 + 1 ≡ vec_len runs - after = omega (arith, len, is.len, test, end) in
    record {
      agree = g.met.R.Run.through (λ b. nat_le o b
          && g.R.Run.asks c.args.active.now b) c.move_at-rest.new.runs.items c.loop-after.runs.items runs.items moved.agree is.agree;
      each = one_each becomes _ runs.items c.loop-after.runs.items c.move_at-rest.new.runs.items
          (subst (λ n. AreEachFrom becomes n runs.items c.loop-after.runs.items) last is.each)
          (subst (λ n. ChangesOne becomes c.loop-after.runs.items n c.move_at-rest.new.runs.items) (sym at) moved.moved);
      len = moved.len ∙ is.len;
      most = omega (arith, is.most, moved.most);
      merged = record {
        lasts = moved.merged.lasts ∙ is.merged.lasts;
        wholes = no_longer_through _ _ _ moved.merged.wholes is.merged.wholes;
        moved = omega (arith, is.merged.moved, moved.merged.moved, is.most, moved.most);
        slowly = slower g.R.Run.each c.args.most c.loop-after.rest c.move_at-rest.result _ _ _ is.most moved.most is.merged.slowly moved.merged.slowly;
      };
      ended = λ some.
          ap (λ n. left_above o (drop n (map g.R.Run.sizes c.move_at-rest.new.runs.items))) at
          ∙ moved.ended some (ap (λ n. left_above o (drop n (map g.R.Run.sizes c.loop-after.runs.items))) behind ∙ is.ended (omega (arith, some, moved.most)));
      kept = λ last h. moved.kept last (is.kept last h);
    }

pub returns-clause-moved : goal.returns-clause-moved
returns-clause-moved g c =
    let o = c.args.oldest in
    let runs = c.args.runs.now in
    let is = c.loop-after.invariant in
    let merged = is.merged in
    let test = c.loop-after-test.false in
    let end = c.len-after-end.ensures in
    let none : vec_len runs - c.loop-after.after ≡ 0 = omega (arith, test, end) in
    let now = left_above o (map g.R.Run.sizes c.loop-after.runs.items) in
    let was = left_above o (map g.R.Run.sizes runs.items) in
    let moved : now + min c.args.most was ≤ was = elim (cases_lt 0 c.loop-after.rest) [
      | inl some ↦ let all = ap (λ n. left_above o (drop n (map g.R.Run.sizes c.loop-after.runs.items))) none in omega (arith, is.ended some, all)
      | inr none_left ↦ omega (arith, none_left, merged.moved)
    ] in
    let len : length c.loop-after.runs.items ≡ length runs.items = omega (arith, is.len, c.loop-after.runs.ok.0, runs.ok.0) in
    record {
      lasts = merged.lasts;
      wholes = merged.wholes;
      moved = moved;
      slowly = slowest g.R.Run.each c.args.most c.loop-after.rest was now is.most merged.slowly;
      released = all_released (g.R.Run.makes c.args.active.now o) g.R.Run.sizes o runs.items c.loop-after.runs.items len
          (λ place was at. is.each.each place was (omega (arith, none)) at);
    }

pub returns-clause-made : goal.returns-clause-made
returns-clause-made g c =
    let o = c.args.oldest in
    let runs = c.args.runs.now in
    let is = c.loop-after.invariant in
    let none : vec_len runs - c.loop-after.after ≡ 0 = omega (arith, c.loop-after-test.false, c.len-after-end.ensures) in
    let len : length c.loop-after.runs.items ≡ length runs.items = omega (arith, is.len, c.loop-after.runs.ok.0, runs.ok.0) in
    all_made (g.R.Run.makes c.args.active.now o) g.R.Run.sizes o runs.items c.loop-after.runs.items len
    (λ place was at. is.each.each place was (omega (arith, none)) at)
