use Rattle.last_readers.proofs.sweeping.sweep.Goals as goal
use Rattle.std.proofs.Common.{length, drop, ap, arith, rules, ◌∙◌, ◌+◌, ◌<◌}
use Rattle.std.proofs.lemmas.List.{length-append, length-drop}
use Rattle.last_readers.proofs.Sweeps.{so_far_all, so_far_more, so_far_none}
use Rattle.last_readers.specs.Steps.{StepsValue}

pub loop-turn-init : goal.loop-turn-init
loop-turn-init c = record { far = so_far_none c.args.oldest c.args.in_force c.args.steps.now.items; len = omega arith; capacity = search rules }

pub turn-in_force-requires : goal.turn-in_force-requires
turn-in_force-requires c =
    let far = c.loop-turn.invariant.far in
    let xs = c.args.steps.now.items in
    let i = c.loop-turn._turn in
    let some : 0 < length c.loop-turn.steps.items =
    omega (
      arith,
      ap length far.items,
      length-append (drop i xs) far.kept,
      length-drop i xs,
      c.loop-turn-test.true,
      c.len-turn-end.ensures.len,
    ) in
    record { some = some }

pub loop-turn-preserved : goal.loop-turn-preserved
loop-turn-preserved c =
    let i = c.loop-turn._turn in
    let is = c.loop-turn.invariant in
    let lt : i < length c.args.steps.now.items = omega (arith, c.loop-turn-test.true, c.len-turn-end.ensures.len) in
    record {
      far = so_far_more c.args.oldest c.args.in_force c.loop-turn.in_force c.turn-in_force.result c.args.steps.now.items c.loop-turn.steps.items
          c.turn-in_force.new.steps.items i (i + 1) (omega arith) lt c.turn-in_force.ensures.turned is.far;
      len = omega (arith, is.len, c.turn-in_force.ensures.len);
      capacity = c.turn-in_force.ensures.capacity ∙ is.capacity;
    }

pub returns : goal.returns
returns c =
    let is = c.loop-turn.invariant in
    let moved = c.move_to_start.ensures in
    record {
      swept = ap (λ (s : StepsValue). s.items) moved
          ∙ so_far_all c.args.oldest c.args.in_force c.loop-turn.in_force c.args.steps.now.items c.loop-turn.steps.items c.loop-turn._turn
          (omega (arith, c.loop-turn-test.false, c.len-turn-end.ensures.len)) is.far;
      len = omega (arith, ap (λ (s : StepsValue). length s.items) moved, is.len);
      capacity = ap (λ (s : StepsValue). s.capacity) moved ∙ is.capacity;
    }
