use Rattle.sorted_pages.proofs.range.EntriesIterator.next.Given as goal
use Rattle.std.proofs.Common.{◌≡◌, length}
use Rattle.sorted_pages.specs.Ranges.{GoesOn, entries_left}

-- pages are taken of which nothing is left
abbrev pub invariant-loop-page : goal.invariant-loop-page
invariant-loop-page g l = record {
  left : entries_left g.V.Versioned.hides l.self ≡ entries_left g.V.Versioned.hides l.fn.self;
  ahead : GoesOn l.fn.self l.self;
}

abbrev pub decreases-loop-page : goal.decreases-loop-page
decreases-loop-page g l = length l.self.pages.now
