use Rattle.std.proofs.Common.{arith, rules}
use Rattle.sorted_pages.proofs.Slots.{free_all, none_asked}
use Rattle.sorted_pages.proofs.held.Held.none.Goals as goal

pub invariant_of-result : goal.invariant_of-result
invariant_of-result c = (search rules, search rules, free_all 64 0, omega arith, λ few. none_asked 64)
