use Rattle.pivot_check.proofs.part.Part.add_bounds.Given as goal
use Rattle.std.proofs.Common.{◌≡◌, length}
use Rattle.std.specs.Prelude.{min}
use Rattle.std.specs.Vec.{vec_capacity}

abbrev pub invariant-loop-block : goal.invariant-loop-block
invariant-loop-block l = record {
  written : l.self.written ≡ l.fn.self.written;
  start : l.self.start ≡ l.fn.self.start;
  bound : l.self.bound ≡ l.fn.self.bound;
  room : vec_capacity l.self.bounds ≡ vec_capacity l.fn.self.bounds;
  count : length l.self.bounds.items ≡ min l._block (vec_capacity l.fn.self.bounds);
}
