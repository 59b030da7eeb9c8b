use Rattle.versions.proofs.versions.Versions.reclaim.Given as goal
use Rattle.std.specs.Prelude.{◌≤◌, length}
use Rattle.sorted_pages.specs.declared.held.TheConstants.{HELD_MAX}
use Rattle.versions.specs.Meaning.{garbage_of, IsSeenSame}
use Rattle.versions.specs.StandsFor.{StandWhereAmong}

abbrev pub invariant-steps : goal.invariant-steps
invariant-steps l = record {
  seen : IsSeenSame l.initial.self l.self l.begins;
  stands : length l.begins ≤ HELD_MAX → StandWhereAmong l.begins l.initial.self l.self;
}

abbrev pub decreases-steps : goal.decreases-steps
decreases-steps l = garbage_of l.begins l.self
