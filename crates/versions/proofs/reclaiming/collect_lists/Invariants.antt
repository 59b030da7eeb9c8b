use Rattle.versions.proofs.reclaiming.collect_lists.Given as goal
use Rattle.std.proofs.Common.{◌≡◌, ◌≤◌, ◌+◌, length}
use Rattle.sorted_pages.specs.Pages.{KeepsHeld, entries}
use Rattle.versions.proofs.Lists.{Collected}
use Rattle.versions.specs.Listings.{ListsAreFilled, versions_in}

-- the lists that were put back were looked at, and the others are left
abbrev pub invariant-loop : goal.invariant-loop
invariant-loop l = record {
  left : length l.rest + l.counter ≡ l.end;
  counted : length l.lists + length l.rest ≤ l.end;
  filled : ListsAreFilled l.lists;
  collected : Collected l.begins (entries l.initial.chains.pages) (entries l.chains.pages) (versions_in l.fn.lists) (versions_in l.lists) (versions_in l.rest);
  held : KeepsHeld l.initial.chains l.chains;
}
