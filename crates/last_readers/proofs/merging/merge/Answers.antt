use Rattle.last_readers.proofs.merging.merge.Goals as goal
use Rattle.std.proofs.Common.{arith, ◌∙◌}

pub steps-preserved : goal.steps-preserved
steps-preserved c =
    let e = c.move_greatest.ensures in
    record {
      same = λ k. e.moved.same k ∙ c.steps.invariant.same k;
      first = e.rising.first;
      second = e.rising.second;
      room = omega (arith, c.steps.invariant.room, e.step.fewer, e.step.made, e.capacity);
    }
