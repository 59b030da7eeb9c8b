use Rattle.stream_driver.proofs.driving.drive_over.Given as goal
use Rattle.stream_driver.proofs.Appends.{SoFar}
use Rattle.stream_driver.specs.Calls.{DrivenOut}
use Rattle.stream_driver.specs.Sends.{LeadsAnswering}

abbrev pub invariant-requests : goal.invariant-requests
invariant-requests g l =
    record {
      was_answered : LeadsAnswering l.fn.s g.S.Stream.reports l.fn.hub (g.S.Stream.traffic l.fn.stream) l.hub (g.S.Stream.traffic l.stream)
          (λ h k. DrivenOut l.fn.s g.S.Stream.reports h (g.S.Stream.traffic l.fn.stream) k (g.S.Stream.traffic l.stream) l._served);
      adds : g.S.Stream.keeps_share
          → SoFar g.S.Stream.reports g.S.Stream.traffic g.S.Stream.share l.fn.s l.fn.hub l.fn.stream l.hub l.stream;
      sound : g.S.Stream.is_sound l.fn.stream → g.S.Stream.is_sound l.stream;
    }
