use Rattle.sorted_pages.proofs.page.Page.next_seen.Given as goal
use Rattle.std.proofs.Common.{◌≡◌, drop, length, ◌-◌}
use Rattle.sorted_pages.specs.Ranges.{shown}

abbrev pub invariant-loop-at : goal.invariant-loop-at
invariant-loop-at g l = shown (g.V.Versioned.hides l.number) (drop l.at l.self.0) ≡ shown (g.V.Versioned.hides l.number) (drop l.from l.self.0)

abbrev pub decreases-loop-at : goal.decreases-loop-at
decreases-loop-at g l = length l.self.0 - l.at
