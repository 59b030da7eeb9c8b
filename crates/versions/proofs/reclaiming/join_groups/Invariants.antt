use Rattle.versions.proofs.reclaiming.join_groups.Given as goal
use Rattle.std.proofs.Common.{◌≤◌, ◌-◌, length, take}
use Rattle.std.specs.List.{AllByRecursion}
use Rattle.versions.specs.Listings.{AreApart, lists_in, pins}
use Rattle.versions.specs.Reclaiming.{KeepsListed}

-- no two of the groups before i have the same pin, and none of these is greater than `greatest`
abbrev pub invariant-loop-i : goal.invariant-loop-i
invariant-loop-i l = record {
  keeps : KeepsListed l.initial.groups.items l.groups.items;
  lists : lists_in l.groups.items ≤ lists_in l.initial.groups.items;
  apart : AreApart (take l.i (pins l.groups.items));
  greatest : AllByRecursion (λ n. n ≤ l.greatest) (take l.i (pins l.groups.items));
}

abbrev pub decreases-loop-i : goal.decreases-loop-i
decreases-loop-i l = length l.groups.items - l.i
