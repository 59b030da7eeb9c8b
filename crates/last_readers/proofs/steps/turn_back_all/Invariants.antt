use Rattle.last_readers.proofs.steps.turn_back_all.Given as goal
use Rattle.std.proofs.Common.{◌≡◌}
use Rattle.std.specs.VecDeque.{deque_len}

abbrev pub invariant-loop-turn : goal.invariant-loop-turn
invariant-loop-turn l = deque_len l.ring ≡ deque_len l.fn.ring
