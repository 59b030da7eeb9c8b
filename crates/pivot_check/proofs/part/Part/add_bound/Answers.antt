use Rattle.pivot_check.proofs.part.Part.add_bound.Goals as goal
use Rattle.std.proofs.Common.{◌≡◌, ◌+◌, ◌-◌, ◌*◌, take, drop, sym, ◌∙◌, arith}
use Rattle.pivot_check.proofs.Passing.{next_bound}
use Rattle.pivot_check.specs.Bounds.{are_from_bound}

pub invariant_of-self : goal.invariant_of-self
invariant_of-self c =
    let part = c.args.self.now in
    let ps = part.written.items in
    let n = c.len-first.result in
    let at = 64 * n in
    let block : 64 ≡ at + 64 - at = omega arith in
    let own = (λ i. are_from_bound c.of.result (take (block i) (drop at (sym c.deref.ensures.value i)))) ∙ c.of.ensures.bound in
    record {
      within = part.within;
      rising = part.rising;
      bounded = part.bounded;
      blocks = next_bound part.bounds.items c.push_reserved.new.self.items ps n c.of.result c.push_reserved.ensures.items
          (omega (arith, part.bounds.ok.0, c.len-first.ensures)) own part.blocks;
      whole = omega (
        arith,
        part.written.ok.0,
        part.bounds.ok.0,
        c.len-first.ensures,
        c.len.ensures,
        c.push_reserved.ensures.len,
        c.push_reserved.new.self.ok.0,
      );
    }
