use Rattle.pivot_check.proofs.part.Part.add_bounds.Goals as goal
use Rattle.std.proofs.Common.{◌<◌, ◌∙◌, length, arith}
use Rattle.std.specs.Prelude.{◌/◌}
use Rattle.std.specs.Vec.{vec_capacity}
use Rattle.pivot_check.proofs.Sweeps.{counted_more}
use Rattle.pivot_check.specs.Bounds.{bound_count}

pub loop-block-preserved : goal.loop-block-preserved
loop-block-preserved c =
    let is = c.loop-block.invariant in
    let ps = c.args.self.now.written.items in
    let lt : c.loop-block._block < length ps / 64 = omega (arith, c.args.self.now.written.ok.0, c.loop-block-test.true) in
    record {
      written = c.add_bound.ensures.written ∙ is.written;
      start = c.add_bound.ensures.start ∙ is.start;
      bound = c.add_bound.ensures.bound ∙ is.bound;
      room = c.add_bound.ensures.room ∙ is.room;
      count = c.add_bound.ensures.bounds ∙ (λ i. bound_count (length (is.written i).items) (is.room i) (length c.loop-block.self.bounds.items))
          ∙ counted_more (length ps) (vec_capacity c.args.self.now.bounds) (length c.loop-block.self.bounds.items) c.loop-block._block lt is.count;
    }
