use Rattle.sorted_pages.proofs.flagging.next_flagged.Given as goal
use Rattle.std.proofs.Common.{◌≡◌, ℕ, ◌<◌, ◌≤◌, false, true, get_or, length, ◌-◌}

abbrev pub invariant-loop-at : goal.invariant-loop-at
invariant-loop-at l = record {
  from : l.from ≤ l.at;
  passed : (i : ℕ) → l.from ≤ i → i < l.at → get_or l.flags i true ≡ false;
}

abbrev pub decreases-loop-at : goal.decreases-loop-at
decreases-loop-at l = length l.flags - l.at
