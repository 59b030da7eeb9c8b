use Rattle.engine.proofs.begins.least_of.Given as goal
use Rattle.std.proofs.Common.{take}
use Rattle.engine.specs.Least.{IsLeast}

abbrev pub invariant-loop-number : goal.invariant-loop-number
invariant-loop-number l = IsLeast (λ n. n) l.last (take l.number-index l.numbers) l.least
