use Rattle.stream_driver.proofs.driving.write_out.Given as goal
use Rattle.stream_driver.specs.Appends.{SpendsShare}
use Rattle.stream_driver.specs.Calls.{WrittenSoFar}
use Rattle.stream_driver.specs.Sends.{LeadsAnswering}

abbrev pub invariant-loop-owed : goal.invariant-loop-owed
invariant-loop-owed g l =
    record {
      was_answered : LeadsAnswering l.fn.s g.S.Stream.reports l.fn.hub (g.S.Stream.traffic l.fn.stream) l.hub (g.S.Stream.traffic l.stream)
          (λ h k. WrittenSoFar l.fn.s g.S.Stream.reports h (g.S.Stream.traffic l.fn.stream) k (g.S.Stream.traffic l.stream) l.owed);
      spends : SpendsShare g.S.Stream.keeps_share g.S.Stream.reports g.S.Stream.traffic g.S.Stream.share l.fn.s l.fn.hub l.fn.stream l.hub l.stream;
      sound : g.S.Stream.is_sound l.fn.stream → g.S.Stream.is_sound l.stream;
    }

abbrev pub decreases-loop-owed : goal.decreases-loop-owed
decreases-loop-owed g l = l.owed
