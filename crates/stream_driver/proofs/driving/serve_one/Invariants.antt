use Rattle.stream_driver.proofs.driving.serve_one.Given as goal
use Rattle.stream_driver.specs.Appends.{KeepsShare}
use Rattle.stream_driver.specs.Calls.{ReadSoFar}
use Rattle.stream_driver.specs.Sends.{LeadsAnswering}

abbrev pub invariant-loop-hub : goal.invariant-loop-hub
invariant-loop-hub g l =
    record {
      was_answered : LeadsAnswering l.fn.s g.S.Stream.reports l.fn.hub (g.S.Stream.traffic l.fn.stream) l.hub (g.S.Stream.traffic l.stream)
          (λ h k. ReadSoFar l.fn.s g.S.Stream.reports h (g.S.Stream.traffic l.fn.stream) k (g.S.Stream.traffic l.stream) l.room);
      keeps : KeepsShare g.S.Stream.keeps_share g.S.Stream.reports g.S.Stream.traffic g.S.Stream.share l.fn.s l.fn.hub l.fn.stream l.hub l.stream;
      sound : g.S.Stream.is_sound l.fn.stream → g.S.Stream.is_sound l.stream;
    }

abbrev pub decreases-loop-hub : goal.decreases-loop-hub
decreases-loop-hub g l = l.room
