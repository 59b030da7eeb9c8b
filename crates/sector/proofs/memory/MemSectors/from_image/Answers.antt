use Rattle.sector.proofs.memory.MemSectors.from_image.Goals as goal
use Rattle.std.proofs.Common.{refl, ◌∙◌, arith, None}
use Rattle.sector.proofs.Slots.{taken_in, all_settled-push}

pub loop-rest-preserved : goal.loop-rest-preserved
loop-rest-preserved c = record {
  image = rw (c.in_ok-push.ensures.items, c.split_at.ensures.back)
      (taken_in c.loop-rest.slots.items (record { written = c.copy_from_slice.new.self; settled = None }) c.loop-rest.rest.now c.args.bytes.now
      (c.copy_from_slice.ensures.after ∙ c.split_at.ensures.front) c.loop-rest.invariant.image);
  settled = rw c.in_ok-push.ensures.items (all_settled-push _ _ c.loop-rest.invariant.settled refl);
  whole = omega (arith, c.split_at.ensures.back_len, c.loop-rest.invariant.whole);
}
