use Rattle.stream_driver.proofs.buffered.BufferedStream.flush.Given as goal
use Rattle.std.proofs.Common.{◌↔◌, length}
use Rattle.stream_driver.proofs.Buffering.{FlushedSoFar}
use Rattle.stream_driver.specs.Buffers.{buffered_in}

abbrev pub invariant-loop-self : goal.invariant-loop-self
invariant-loop-self g l = record {
  so_far : FlushedSoFar g.S.Stream.reports g.S.Stream.traffic (g.D.Sectors.moment l.device) l.initial.self l.self;
  short : g.S.Stream.came_short l.initial.self.inner ↔ g.S.Stream.came_short l.self.inner;
}

abbrev pub decreases-loop-self : goal.decreases-loop-self
decreases-loop-self g l = length (buffered_in l.self.buffered)
