use Rattle.sector.proofs.device.Sectors.read_sectors.Given as goal
use Rattle.std.proofs.Common.{◌<◌, ◌+◌, ℕ, List}
use Rattle.sector.specs.Counts.{KeepsCounts, StayedOver}
use Rattle.sector.specs.SectorModel.{Elapses, sector_in}

abbrev pub invariant-loop-k : goal.invariant-loop-k
invariant-loop-k g l = record {
  counts : KeepsCounts g.Self.Sectors.size g.Self.Sectors.syncs l.fn.self l.self;
  failures : StayedOver l.k (g.Self.Sectors.failures l.fn.self) (g.Self.Sectors.failures l.self);
  gives : g.Self.Sectors.keeps_model → (j : ℕ) → j < l.k → g.Self.Sectors.may_read l.fn.self (l.at + j) (sector_in l.into j);
  reads : g.Self.Sectors.keeps_model → (i : ℕ) (s : List ℕ) → g.Self.Sectors.may_read l.self i s → g.Self.Sectors.may_read l.fn.self i s;
  crash : g.Self.Sectors.keeps_model → (c : List (List ℕ)) → g.Self.Sectors.may_leave l.self c → g.Self.Sectors.may_leave l.fn.self c;
  time : g.Self.Sectors.keeps_model
      → Elapses (g.Self.Sectors.moment l.fn.self) (g.Self.Sectors.moment l.self) (g.Self.Sectors.left_since l.fn.self) (g.Self.Sectors.left_since l.self)
      (g.Self.Sectors.may_leave l.fn.self);
}
