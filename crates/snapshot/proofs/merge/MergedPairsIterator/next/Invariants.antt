use Rattle.snapshot.proofs.merge.MergedPairsIterator.next.Given as goal
use Rattle.std.proofs.Common.{◌≡◌, length}
use Rattle.versions.specs.Lent.{GoesOn}
use Rattle.snapshot.specs.Ahead.{merged_pairs}

-- the writes left out so far are deletions
abbrev pub invariant-loop-first : goal.invariant-loop-first
invariant-loop-first l = record {
  left : merged_pairs l.self ≡ merged_pairs l.initial.self;
  goes : GoesOn l.initial.self.pairs l.self.pairs;
}

abbrev pub decreases-loop-first : goal.decreases-loop-first
decreases-loop-first l = length l.self.writes.now
