use Rattle.stream_driver.proofs.entries.drive_ready_then.Given as goal
use Rattle.std.proofs.Common.{take}
use Rattle.stream_driver.proofs.Waiting.{EntriesBelow}
use Rattle.stream_driver.specs.Appends.{AppendsAtMost, UsesShare, ready_count}
use Rattle.stream_driver.specs.Entries.{EntriesSoFar, all_but}
use Rattle.stream_driver.specs.Waits.{WaitsSince}

abbrev pub invariant-loop-key : goal.invariant-loop-key
invariant-loop-key g l = record {
  so_far : EntriesSoFar g.S.Stream.reports g.S.Stream.traffic l.fn.last l.key l.fn.hub l.fn.table.slots l.hub l.table.slots;
  appends : g.S.Stream.keeps_share → AppendsAtMost (ready_count (take l.key (all_but l.fn.last l.fn.table.slots))) l.fn.hub l.hub;
  shares : g.S.Stream.keeps_share
      → EntriesBelow (UsesShare g.S.Stream.reports g.S.Stream.traffic g.S.Stream.share) l.key (all_but l.fn.last l.fn.table.slots)
      (all_but l.fn.last l.table.slots);
  waits : EntriesBelow (WaitsSince g.S.Stream.is_sound g.S.Stream.waits) l.key (all_but l.fn.last l.fn.table.slots) (all_but l.fn.last l.table.slots);
}
