use Rattle.last_readers.proofs.sweeping.sweep.Given as goal
use Rattle.std.proofs.Common.{◌≡◌, ◌≤◌, length}
use Rattle.last_readers.proofs.Sweeps.{IsSoFar}

abbrev pub invariant-loop-turn : goal.invariant-loop-turn
invariant-loop-turn l = record {
  far : IsSoFar l.oldest l.fn.in_force l.in_force l.fn.steps.items l.steps.items l._turn;
  len : length l.steps.items ≤ length l.fn.steps.items;
  capacity : l.steps.capacity ≡ l.fn.steps.capacity;
}
