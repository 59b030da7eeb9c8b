use Rattle.versions.proofs.reclaiming.reclaim_groups.Given as goal
use Rattle.sorted_pages.specs.Pages.{KeepsHeld, entries}
use Rattle.versions.proofs.Groups.{Settling}

-- the groups from `left` on were looked at
abbrev pub invariant-loop-left : goal.invariant-loop-left
invariant-loop-left l = record {
  settling : Settling l.begins (entries l.initial.chains.pages) (entries l.chains.pages) l.initial.groups l.groups l.left l.most;
  held : KeepsHeld l.initial.chains l.chains;
}

abbrev pub decreases-loop-left : goal.decreases-loop-left
decreases-loop-left l = l.left
