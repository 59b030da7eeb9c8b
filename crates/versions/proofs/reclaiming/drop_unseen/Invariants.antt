use Rattle.versions.proofs.reclaiming.drop_unseen.Given as goal
use Rattle.sorted_pages.specs.Pages.{KeepsHeld, entries}
use Rattle.versions.proofs.Groups.{Dropping}

-- those from `left` on were looked at
abbrev pub invariant-loop-left : goal.invariant-loop-left
invariant-loop-left l = record {
  dropping : Dropping l.begins (entries l.initial.chains.pages) (entries l.chains.pages) l.initial.versions.items l.versions.items l.left;
  held : KeepsHeld l.initial.chains l.chains;
}

abbrev pub decreases-loop-left : goal.decreases-loop-left
decreases-loop-left l = l.left
